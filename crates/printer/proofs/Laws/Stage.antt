-- The record while its lines are read: the parts of the kinds that are read are whole, of the one being read so many entries or bits
-- are in, and the others are zeros. A rule reads only entries that are in already, so it lets a line pass there as it does in the
-- whole record.
use Prim.Native.Nat.{ℕ, suc, ◌+◌, ◌<◌}
use mathlib.Core.Path.{◌≡◌, refl, sym, ◌∙◌}
use mathlib.Core.Bool.{Bool, true, false, cond, ◌||◌}
use native.Mathlib.Numerals.{add-one}
use native.Mathlib.Omega.{arith}
use Rattle.text.specs.declared.line.Line.TheVariants.{Segment, Partition, Right, Flow, Slot}
use Rattle.policy.specs.Limits.{Limits}
use Rattle.policy.specs.Modes.{gives_read, gives_write, mode_in}
use Rattle.policy.specs.View.{View}
use Rattle.policy.specs.Range.{out_of_range}
use Rattle.policy.specs.Clash.{clashes}
use Rattle.policy.specs.Tables.{Segments, Partitions, Slots, Rights, Flows, Tables, zeros, view_of}
use Rattle.policy.specs.Draft.{with_segments, with_partitions, with_rights, with_flows, with_slots, added}
use Rattle.policy.specs.Sound.{passes}
use Rattle.policy.proofs.Laws.Bools.{or_left, or_right}
use Rattle.policy.proofs.Laws.Same.{segment_same, partition_same, slot_same}
use Rattle.printer.proofs.Laws.Passed.{Passed}
use Rattle.printer.proofs.Laws.Upto.{upto, upto_none, upto_set, upto_at, upto_full}
use Rattle.printer.proofs.Laws.Lows.{lows}
use Rattle.printer.proofs.Laws.Widths.{right_width, right_none, right_row, right_all, right_more, flow_width, flow_none, flow_row, flow_all, flow_more}

-- The first entries of a part.
abbrev segments_upto : Segments → ℕ → Segments
segments_upto a i = record { count = i; base = upto a.base i; size = upto a.size i }

abbrev partitions_upto : Partitions → ℕ → Partitions
partitions_upto a i = record { count = i; code = upto a.code i; save = upto a.save i }

abbrev slots_upto : Slots → ℕ → Slots
slots_upto a i = record { count = i; owner = upto a.owner i; ticks = upto a.ticks i }

abbrev rights_upto : ℕ → Rights → ℕ → ℕ → Rights
rights_upto n a p s = record { reads = lows (right_width n p s) a.reads; writes = lows (right_width n p s) a.writes }

abbrev flows_upto : Flows → ℕ → ℕ → Flows
flows_upto a s u = record { sources = lows (flow_width s u) a.sources }

-- The stages of each kind, by the lines of it that are in, or the pairs that are passed; and after its last line.
abbrev pub at_segment : Limits → Tables → ℕ → Tables
at_segment limits t i = with_segments (zeros limits) (segments_upto t.segments i)

abbrev pub segments_in : Limits → Tables → Tables
segments_in limits t = with_segments (zeros limits) t.segments

abbrev pub at_partition : Limits → Tables → ℕ → Tables
at_partition limits t i = with_partitions (segments_in limits t) (partitions_upto t.partitions i)

abbrev pub partitions_in : Limits → Tables → Tables
partitions_in limits t = with_partitions (segments_in limits t) t.partitions

abbrev pub at_right : Limits → Tables → ℕ → ℕ → Tables
at_right limits t p s = with_rights (partitions_in limits t) (rights_upto limits.segments t.rights p s)

abbrev pub rights_in : Limits → Tables → Tables
rights_in limits t = with_rights (partitions_in limits t) t.rights

abbrev pub at_flow : Limits → Tables → ℕ → ℕ → Tables
at_flow limits t s u = with_flows (rights_in limits t) (flows_upto t.flows s u)

abbrev pub flows_in : Limits → Tables → Tables
flows_in limits t = with_flows (rights_in limits t) t.flows

abbrev pub at_slot : Limits → Tables → ℕ → Tables
at_slot limits t i = with_slots (flows_in limits t) (slots_upto t.slots i)

-- A line gives what its letters say.
read_given : (r w : Bool) → gives_read (cond r 1 0 + cond w 2 0) ≡ r
read_given true true = refl
read_given true false = refl
read_given false true = refl
read_given false false = refl

write_given : (r w : Bool) → gives_write (cond r 1 0 + cond w 2 0) ≡ w
write_given true true = refl
write_given true false = refl
write_given false true = refl
write_given false false = refl

module _ (limits : Limits) (t : Tables) (h : Passed limits t) where
  abbrev v : View
  v = view_of t

  pub segments_none : zeros limits ≡ at_segment limits t 0
  segments_none = rw (upto_none t.segments.base _ h.shape.base, upto_none t.segments.size _ h.shape.size)

  pub segments_all : at_segment limits t v.segments ≡ segments_in limits t
  segments_all =
      rw (
        upto_full t.segments.base v.segments h.unused.base,
        upto_full t.segments.size v.segments h.unused.size,
      )

  pub partitions_none : segments_in limits t ≡ at_partition limits t 0
  partitions_none =
      rw (upto_none t.partitions.code _ h.shape.code, upto_none t.partitions.save _ h.shape.save)

  pub partitions_all : at_partition limits t v.partitions ≡ partitions_in limits t
  partitions_all =
      rw (
        upto_full t.partitions.code v.partitions h.unused.code,
        upto_full t.partitions.save v.partitions h.unused.save,
      )

  pub slots_none : flows_in limits t ≡ at_slot limits t 0
  slots_none = rw (upto_none t.slots.owner _ h.shape.owner, upto_none t.slots.ticks _ h.shape.ticks)

  pub slots_all : at_slot limits t v.slots ≡ t
  slots_all =
      rw (
        upto_full t.slots.owner v.slots h.unused.owner,
        upto_full t.slots.ticks v.slots h.unused.ticks,
        h.unused.byte,
      )

  -- What a line adds leads to the next stage, and so does a pair without a line.
  pub add_segment : (i : ℕ) → i < v.segments →
      added (at_segment limits t i) (Segment i (v.base i) (v.size i)) ≡ at_segment limits t (suc i)
  unfolding added
  add_segment i l =
      let s = h.shape in
      let few = h.few_segments in
      rw (add-one i, upto_set t.segments.base i (omega arith), upto_set t.segments.size i (omega arith))

  pub add_partition : (i : ℕ) → i < v.partitions →
      added (at_partition limits t i) (Partition i (v.code i) (v.save i)) ≡ at_partition limits t (suc i)
  unfolding added
  add_partition i l =
      let s = h.shape in
      let few = h.few_partitions in
      rw (add-one i, upto_set t.partitions.code i (omega arith), upto_set t.partitions.save i (omega arith))

  pub add_slot : (i : ℕ) → i < v.slots → added (at_slot limits t i) (Slot (v.owner i) (v.ticks i)) ≡ at_slot limits t (suc i)
  unfolding added
  add_slot i l =
      let s = h.shape in
      let few = h.few_slots in
      rw (add-one i, upto_set t.slots.owner i (omega arith), upto_set t.slots.ticks i (omega arith))

  -- A line that passes in the whole record, after those before it, passes at its stage.
  pub segment_passes : (i : ℕ) → i < v.segments →
      passes limits (view_of (at_segment limits t i)) (Segment i (v.base i) (v.size i)) ≡ true
  segment_passes i l =
      let s = h.shape in
      let few = h.few_segments in
      sym (segment_same limits v (view_of (at_segment limits t i)) i _ _ refl refl refl
      (λ j b. sym (upto_at t.segments.base i j (omega arith) b))
      (λ j b. sym (upto_at t.segments.size i j (omega arith) b)))
      ∙ h.segment i l

  pub partition_passes : (i : ℕ) → i < v.partitions →
      passes limits (view_of (at_partition limits t i)) (Partition i (v.code i) (v.save i)) ≡ true
  partition_passes i l =
      let s = h.shape in
      let few = h.few_partitions in
      sym (partition_same limits v (view_of (at_partition limits t i)) i _ _ refl refl refl refl refl
      (λ j b. sym (upto_at t.partitions.code i j (omega arith) b))
      (λ j b. sym (upto_at t.partitions.save i j (omega arith) b)))
      ∙ h.partition i l

  pub slot_passes : (i : ℕ) → i < v.slots →
      passes limits (view_of (at_slot limits t i)) (Slot (v.owner i) (v.ticks i)) ≡ true
  slot_passes i l = sym (slot_same limits v (view_of (at_slot limits t i)) i _ _ refl refl refl refl) ∙ h.slot i l

  pub right_passes : (p s : ℕ) → p < limits.partitions → s < limits.segments → v.reads p s || v.writes p s ≡ true →
      passes limits (view_of (at_right limits t p s)) (Right p s (mode_in v p s)) ≡ true
  unfolding out_of_range clashes
  right_passes p s l k e = h.right p s l k e

  pub flow_passes : (s u : ℕ) → s < limits.segments → u < limits.segments → v.flow s u ≡ true →
      passes limits (view_of (at_flow limits t s u)) (Flow s u) ≡ true
  unfolding out_of_range clashes
  flow_passes s u l k e = h.flow s u l k e

  pub rights_none : partitions_in limits t ≡ at_right limits t 0 0
  rights_none =
      rw (
        right_none limits.segments limits.partitions t.rights.reads h.shape.reads,
        right_none limits.segments limits.partitions t.rights.writes h.shape.writes,
      )

  pub rights_row : (p : ℕ) → at_right limits t p limits.segments ≡ at_right limits t (suc p) 0
  rights_row p =
      rw (
        right_row limits.segments limits.partitions t.rights.reads h.shape.reads p,
        right_row limits.segments limits.partitions t.rights.writes h.shape.writes p,
      )

  pub rights_all : at_right limits t limits.partitions 0 ≡ rights_in limits t
  rights_all =
      rw (
        right_all limits.segments limits.partitions t.rights.reads h.shape.reads h.masks.reads,
        right_all limits.segments limits.partitions t.rights.writes h.shape.writes h.masks.writes,
      )

  pub add_right : (p s : ℕ) → p < limits.partitions →
      added (at_right limits t p s) (Right p s (mode_in v p s)) ≡ at_right limits t p (suc s)
  unfolding added
  add_right p s l =
      rw (
        read_given (v.reads p s) (v.writes p s),
        write_given (v.reads p s) (v.writes p s),
        right_more limits.segments limits.partitions t.rights.reads h.shape.reads p s l,
        right_more limits.segments limits.partitions t.rights.writes h.shape.writes p s l,
      )

  pub keep_right : (p s : ℕ) → p < limits.partitions → v.reads p s || v.writes p s ≡ false →
      at_right limits t p s ≡ at_right limits t p (suc s)
  keep_right p s l e =
      let r = right_more limits.segments limits.partitions t.rights.reads h.shape.reads p s l in
      let q = right_more limits.segments limits.partitions t.rights.writes h.shape.writes p s l in
      rw (
        rw (or_left (v.reads p s) (v.writes p s) e) at r,
        rw (or_right (v.reads p s) (v.writes p s) e) at q,
      )

  pub flows_none : rights_in limits t ≡ at_flow limits t 0 0
  flows_none = rw (flow_none limits.segments t.flows.sources h.shape.sources)

  pub flows_row : (s : ℕ) → at_flow limits t s limits.segments ≡ at_flow limits t (suc s) 0
  flows_row s = rw (flow_row limits.segments t.flows.sources h.shape.sources s)

  pub flows_all : at_flow limits t limits.segments 0 ≡ flows_in limits t
  flows_all = rw (flow_all limits.segments t.flows.sources h.shape.sources h.masks.sources)

  pub add_flow : (s u : ℕ) → u < limits.segments → v.flow s u ≡ true →
      added (at_flow limits t s u) (Flow s u) ≡ at_flow limits t s (suc u)
  unfolding added
  add_flow s u l e =
      let r = flow_more limits.segments t.flows.sources h.shape.sources s u l in rw (rw e at r)

  pub keep_flow : (s u : ℕ) → u < limits.segments → v.flow s u ≡ false → at_flow limits t s u ≡ at_flow limits t s (suc u)
  keep_flow s u l e =
      let r = flow_more limits.segments t.flows.sources h.shape.sources s u l in rw (rw e at r)
