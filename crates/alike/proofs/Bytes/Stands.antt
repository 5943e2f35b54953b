-- A line adds to the bytes and to the masks what stands for the same: a byte set stands for the bits set, and for no other pair. A
-- right line's pair must be a new one, since its byte is set where bits are added.
use Prim.Native.Nat.{ℕ, ◌<◌}
use mathlib.Core.Path.{◌≡◌, refl, sym, ◌∙◌, ap, fun_ext}
use mathlib.Core.Bool.{Bool, true, false, cond, ◌&&◌, ◌||◌, and-false, and_comm, or-false, or-true}
use mathlib.Core.List.{List}
use native.Mathlib.Omega.{arith}
use native.Mathlib.Decide.{dec_lt, ℕ_discrete}
use borrow.Author.Tests.{eq-eqb, ne_eqb, lt-ltb, le-ltb}
use lib.Dec.{eqb, ltb}
use lib.ListN.{length, get_or, set}
use lib.Seq.{get_or-set_same, get_or-set_other}
use Rattle.bits.specs.Masks.{has}
use Rattle.text.specs.declared.line.Line.TheVariants.{Segment, Partition, Right, Flow, Slot}
use Rattle.policy.specs.Draft.{added, with_bit_at, with_segment, with_partition, with_slot}
use Rattle.policy.specs.Modes.{gives_read, gives_write}
use Rattle.policy.specs.Tables.{Segments, Partitions, Slots, Tables, view_of}
use Rattle.alike.specs.Bytes.{Bytes, pair_at, view_of_bytes, added_bytes, StandsFor}
use Rattle.policy.proofs.Laws.Bits.{bit_at, bit_where}

-- Two pairs of a segment below 32 with one place are one pair.
apart : (q u p s : ℕ) → u < 32 → s < 32 → (pair_at q u ≡ pair_at p s → ⊥) → eqb q p && eqb u s ≡ false
apart q u p s lu ls n = go (ℕ_discrete q p) (ℕ_discrete u s)
  where
    go : Dec (q ≡ p) → Dec (u ≡ s) → eqb q p && eqb u s ≡ false
    go (yes e) (yes f) = absurd (n (omega arith))
    go (yes e) (no f) = rw (ne_eqb u s f, and-false)
    go (no e) d = rw (ne_eqb q p e)

-- One letter of the rights: r by gives_read, w by gives_write.
module _ (gives : ℕ → Bool) (rights masks : List ℕ)
    (same : (q u : ℕ) → ltb u 32 && gives (get_or rights (pair_at q u) 0) ≡ has (get_or masks q 0) u) (p s mode : ℕ)
    (there : pair_at p s < length rights) (row : p < length masks) (column : s < 32) (new : has (get_or masks p 0) s ≡ false) where
  abbrev stored : List ℕ
  stored = set rights (pair_at p s) mode

  pub right_same : (q u : ℕ) →
      ltb u 32 && gives (get_or stored (pair_at q u) 0) ≡ has (get_or (cond (gives mode) (with_bit_at masks p s) masks) q 0) u
  right_same q u = go (dec_lt u 32) ∙ sym (bit_where masks (length masks) refl p s row (gives mode) q u)
    where
      within : u < 32 → Dec (pair_at q u ≡ pair_at p s) →
          ltb u 32 && gives (get_or stored (pair_at q u) 0) ≡ has (get_or masks q 0) u || gives mode && (eqb q p && eqb u s)
      within l (yes e) =
          let eq : q ≡ p = omega arith in
          let es : u ≡ s = omega arith in
          rw (eq, es, get_or-set_same rights (pair_at p s) mode 0 there, new, lt-ltb s 32 column, eq-eqb p p refl, eq-eqb s s refl)
          (sym (both (gives mode)))
        where
          both : (b : Bool) → b && true ≡ b
          both true = refl
          both false = refl
      within l (no n) =
          rw (get_or-set_other rights (pair_at p s) (pair_at q u) mode 0 n, apart q u p s l column n, and-false, or-false) (same q u)

      go : Dec (u < 32) →
          ltb u 32 && gives (get_or stored (pair_at q u) 0) ≡ has (get_or masks q 0) u || gives mode && (eqb q p && eqb u s)
      go (yes l) = within l (ℕ_discrete (pair_at q u) (pair_at p s))
      go (no l) =
          let past = le-ltb u 32 (omega arith) in
          rw (ne_eqb u s (λ e. omega arith), and-false, and-false, or-false) (rw past (rw past at (same q u)))

-- The flow lines, whose masks are those of the segments that they go into.
module _ (flows masks : List ℕ)
    (same : (s u : ℕ) → ltb u 32 && eqb (get_or flows (pair_at s u) 0) 1 ≡ has (get_or masks u 0) s) (from to : ℕ)
    (there : pair_at from to < length flows) (row : to < length masks) (column : to < 32) where
  pub flow_same : (s u : ℕ) →
      ltb u 32 && eqb (get_or (set flows (pair_at from to) 1) (pair_at s u) 0) 1 ≡ has (get_or (with_bit_at masks to from) u 0) s
  flow_same s u = go (dec_lt u 32) ∙ sym (bit_at masks (length masks) refl to from row u s)
    where
      within : u < 32 → Dec (pair_at s u ≡ pair_at from to) →
          ltb u 32 && eqb (get_or (set flows (pair_at from to) 1) (pair_at s u) 0) 1 ≡ has (get_or masks u 0) s || eqb u to && eqb s from
      within l (yes e) =
          let es : s ≡ from = omega arith in
          let eu : u ≡ to = omega arith in
          rw (es, eu, get_or-set_same flows (pair_at from to) 1 0 there, lt-ltb to 32 column, eq-eqb to to refl, eq-eqb from from refl, or-true)
      within l (no n) =
          rw (get_or-set_other flows (pair_at from to) (pair_at s u) 1 0 n, turned) (same s u ∙ sym (or-false _))
        where
          turned : eqb u to && eqb s from ≡ false
          turned = and_comm (eqb u to) (eqb s from) ∙ apart s u from to l column n

      go : Dec (u < 32) →
          ltb u 32 && eqb (get_or (set flows (pair_at from to) 1) (pair_at s u) 0) 1 ≡ has (get_or masks u 0) s || eqb u to && eqb s from
      go (yes l) = within l (ℕ_discrete (pair_at s u) (pair_at from to))
      go (no l) =
          let past = le-ltb u 32 (omega arith) in
          rw (ne_eqb u to (λ e. omega arith), or-false) (rw past (rw past at (same s u)))

module _ (b : Bytes) (t : Tables) (h : StandsFor b t) where
  pub segment_stands : (id base size : ℕ) →
      StandsFor (added_bytes b (Segment id base size)) (added t (Segment id base size))
  unfolding added_bytes added
  segment_stands id base size =
      record {
        segments = ap (λ (a : Segments). with_segment a id base size) h.segments;
        partitions = h.partitions;
        slots = h.slots;
        reads = h.reads;
        writes = h.writes;
        flow = h.flow;
        unused = h.unused;
      }

  pub partition_stands : (id code save : ℕ) →
      StandsFor (added_bytes b (Partition id code save)) (added t (Partition id code save))
  unfolding added_bytes added
  partition_stands id code save =
      record {
        segments = h.segments;
        partitions = ap (λ (a : Partitions). with_partition a id code save) h.partitions;
        slots = h.slots;
        reads = h.reads;
        writes = h.writes;
        flow = h.flow;
        unused = h.unused;
      }

  pub slot_stands : (partition ticks : ℕ) → StandsFor (added_bytes b (Slot partition ticks)) (added t (Slot partition ticks))
  unfolding added_bytes added
  slot_stands partition ticks =
      record {
        segments = h.segments;
        partitions = h.partitions;
        slots = ap (λ (a : Slots). with_slot a partition ticks) h.slots;
        reads = h.reads;
        writes = h.writes;
        flow = h.flow;
        unused = h.unused;
      }

  pub right_stands : (p s mode : ℕ) → pair_at p s < length b.rights → p < length t.rights.reads →
      p < length t.rights.writes → s < 32 → (view_of t).reads p s ≡ false → (view_of t).writes p s ≡ false →
      StandsFor (added_bytes b (Right p s mode)) (added t (Right p s mode))
  unfolding added_bytes added
  right_stands p s mode there reads writes column unread unwritten =
      record {
        segments = h.segments;
        partitions = h.partitions;
        slots = h.slots;
        reads = right_same gives_read b.rights t.rights.reads h.reads p s mode there reads column unread;
        writes = right_same gives_write b.rights t.rights.writes h.writes p s mode there writes column unwritten;
        flow = h.flow;
        unused = h.unused;
      }

  pub flow_stands : (from to : ℕ) → pair_at from to < length b.flows → to < length t.flows.sources → to < 32 →
      StandsFor (added_bytes b (Flow from to)) (added t (Flow from to))
  unfolding added_bytes added
  flow_stands from to there row column =
      record {
        segments = h.segments;
        partitions = h.partitions;
        slots = h.slots;
        reads = h.reads;
        writes = h.writes;
        flow = flow_same b.flows t.flows.sources h.flow from to there row column;
        unused = h.unused;
      }

  -- The rules and the machine see the same.
  pub views_same : view_of_bytes b ≡ view_of t
  views_same =
      rw (
        h.segments,
        h.partitions,
        h.slots,
        fun_ext (λ p. fun_ext (h.reads p)),
        fun_ext (λ p. fun_ext (h.writes p)),
        fun_ext (λ s. fun_ext (h.flow s)),
      )
