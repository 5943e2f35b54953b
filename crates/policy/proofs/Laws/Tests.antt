-- What a passed test of an entry says in numbers: no test of rules 4 and 5 was met, and each of them is turned into its fact.
use Prim.Native.Nat.{ℕ, ◌+◌, ◌≤◌, ◌<◌}
use mathlib.Core.Path.{◌≡◌, refl, sym, ◌∙◌, ap}
use mathlib.Core.Bool.{Bool, true, false, ◌||◌, not, true≢false}
use mathlib.Core.Logic.{◌⊎◌, inl, inr}
use native.Mathlib.Omega.{arith}
use native.Mathlib.Decide.{dec_le}
use borrow.Author.Tests.{ltb-false, leb-false, eqb-true, eqb-false, not-true, not-false, eq-eqb, lt-ltb}
use lib.Dec.{eqb}
use Rattle.text.specs.declared.line.Line.{Line}
use Rattle.text.specs.declared.line.Line.TheVariants.{Segment, Partition, Right, Flow, Slot}
use Rattle.policy.specs.Limits.{Limits, longest_segment, save_size, most_ticks}
use Rattle.policy.specs.Modes.{mode_in}
use Rattle.policy.specs.View.{View}
use Rattle.policy.specs.Range.{no_segment, out_of_range}
use Rattle.policy.specs.Clash.{clashes, overlaps, shares}
use Rattle.policy.specs.Sound.{passes, first_segments, first_partitions, first_slots, good_segment, good_partition, good_slot, good_right, good_flow}
use Rattle.policy.proofs.Laws.Bools.{and_left, and_right, or_left, or_right}
use Rattle.policy.proofs.Laws.Below.{none_at, some_found}

pub ruleset parts = (and_left, and_right, or_left, or_right)

module _ (limits : Limits) (v : View) (line : Line) where
  pub passes_ranged : passes limits v line ≡ true → out_of_range limits v line ≡ false
  passes_ranged h = not-true _ (and_left (not (out_of_range limits v line)) (not (clashes v line)) h)

  pub passes_clear : passes limits v line ≡ true → clashes v line ≡ false
  passes_clear h = not-true _ (and_right (not (out_of_range limits v line)) (not (clashes v line)) h)

  pub passes_both : out_of_range limits v line ≡ false → clashes v line ≡ false → passes limits v line ≡ true
  passes_both r c = rw (r, c)

or_rest : (a b : Bool) → a || b ≡ true → a ≡ false → b ≡ true
or_rest true b h e = absurd (true≢false e)
or_rest false b h e = h

module _ (limits : Limits) (v : View) (i : ℕ) (h : good_segment limits v i ≡ true) where
  segment_ranged : out_of_range limits (first_segments v i) (Segment i (v.base i) (v.size i)) ≡ false
  unfolding good_segment
  segment_ranged = passes_ranged _ _ _ h

  segment_clear : clashes (first_segments v i) (Segment i (v.base i) (v.size i)) ≡ false
  unfolding good_segment
  segment_clear = passes_clear limits _ _ h

  pub segment_least : 1 ≤ v.size i
  unfolding out_of_range
  segment_least = let r = segment_ranged in ltb-false (v.size i) 1 (search parts)

  pub segment_most : v.size i ≤ longest_segment
  unfolding out_of_range
  segment_most = let r = segment_ranged in ltb-false longest_segment (v.size i) (search parts)

  pub segment_inside : v.base i + v.size i ≤ limits.memory
  unfolding out_of_range
  segment_inside = let r = segment_ranged in ltb-false limits.memory (v.base i + v.size i) (search parts)

  pub segment_apart : (j : ℕ) → j < i → (v.base j + v.size j ≤ v.base i) ⊎ (v.base i + v.size i ≤ v.base j)
  unfolding clashes
  segment_apart j l = go (dec_le (v.base j + v.size j) (v.base i))
    where
      go : Dec (v.base j + v.size j ≤ v.base i) →
          (v.base j + v.size j ≤ v.base i) ⊎ (v.base i + v.size i ≤ v.base j)
      go (yes g) = inl g
      go (no g) =
          let n = none_at (overlaps v (v.base i) (v.size i)) i segment_clear j l in
          let t = lt-ltb (v.base i) (v.base j + v.size j) (omega arith) in
          inr (ltb-false (v.base j) (v.base i + v.size i) (rw t at n))

module _ (limits : Limits) (v : View) (i : ℕ) (h : good_partition limits v i ≡ true) where
  partition_ranged : out_of_range limits (first_partitions v i) (Partition i (v.code i) (v.save i)) ≡ false
  unfolding good_partition
  partition_ranged = passes_ranged _ _ _ h

  partition_clear : clashes (first_partitions v i) (Partition i (v.code i) (v.save i)) ≡ false
  unfolding good_partition
  partition_clear = passes_clear limits _ _ h

  pub partition_code : v.code i < v.segments
  unfolding out_of_range
  partition_code = let r = partition_ranged in leb-false v.segments (v.code i) (search parts)

  pub partition_save : v.save i < v.segments
  unfolding out_of_range
  partition_save = let r = partition_ranged in leb-false v.segments (v.save i) (search parts)

  pub partition_size : v.size (v.save i) ≡ save_size
  unfolding clashes
  partition_size = let r = partition_clear in eqb-true (v.size (v.save i)) save_size (not-false _ (search parts))

  pub partition_parts : v.code i ≡ v.save i → ⊥
  unfolding clashes
  partition_parts = let r = partition_clear in eqb-false (v.code i) (v.save i) (search parts)

  others : (q : ℕ) → q < i → shares v (v.code i) (v.save i) q ≡ false
  unfolding clashes
  others = let r = partition_clear in none_at (shares v (v.code i) (v.save i)) i (search parts)

  pub partition_own : (q : ℕ) → q < i → v.save i ≡ v.save q → ⊥
  partition_own q l = let r = others q l in eqb-false (v.save i) (v.save q) (search parts)

  pub partition_later : (q : ℕ) → q < i → v.code i ≡ v.save q → ⊥
  partition_later q l = let r = others q l in eqb-false (v.code i) (v.save q) (search parts)

  pub partition_earlier : (q : ℕ) → q < i → v.save i ≡ v.code q → ⊥
  partition_earlier q l = let r = others q l in eqb-false (v.save i) (v.code q) (search parts)

module _ (limits : Limits) (v : View) (i : ℕ) (h : good_slot limits v i ≡ true) where
  slot_ranged : out_of_range limits (first_slots v i) (Slot (v.owner i) (v.ticks i)) ≡ false
  unfolding good_slot
  slot_ranged = passes_ranged _ _ _ h

  pub slot_owner : v.owner i < v.partitions
  unfolding out_of_range
  slot_owner = let r = slot_ranged in leb-false v.partitions (v.owner i) (search parts)

  pub slot_least : 1 ≤ v.ticks i
  unfolding out_of_range
  slot_least = let r = slot_ranged in ltb-false (v.ticks i) 1 (search parts)

  pub slot_most : v.ticks i ≤ most_ticks
  unfolding out_of_range
  slot_most = let r = slot_ranged in ltb-false most_ticks (v.ticks i) (search parts)

module _ (limits : Limits) (v : View) where
  -- No line gives a right on a save segment.
  pub right_on_save : (p s : ℕ) → good_right limits v p s ≡ true →
      (q : ℕ) → q < v.partitions → s ≡ v.save q → v.reads p s || v.writes p s ≡ false
  unfolding good_right clashes
  right_on_save p s h q l e = go (v.reads p s || v.writes p s) refl
    where
      line : Line
      line = Right p s (mode_in v p s)

      go : (b : Bool) → v.reads p s || v.writes p s ≡ b → v.reads p s || v.writes p s ≡ false
      go false t = t
      go true t =
          let r : passes limits v line ≡ true = or_rest (not (v.reads p s || v.writes p s)) (passes limits v line) h (ap not t) in
          let o = some_found (λ q. eqb s (v.save q)) v.partitions q l (eq-eqb s (v.save q) e) in
          absurd (true≢false (sym o ∙ passes_clear limits v line r))

  pub flow_goes : (s t : ℕ) → good_flow limits v s t ≡ true → v.flow s t ≡ true → s ≡ t → ⊥
  unfolding good_flow clashes
  flow_goes s t h one =
      eqb-false s t
      (passes_clear limits v (Flow s t) (or_rest (not (v.flow s t)) (passes limits v (Flow s t)) h (ap not one)))

  -- A flow line stands between two segments.
  pub flow_there : (s t : ℕ) → good_flow limits v s t ≡ true → v.flow s t ≡ true → (s < v.segments) × (t < v.segments)
  unfolding good_flow out_of_range
  flow_there s t h one =
      let r : no_segment v s || no_segment v t ≡ false =
      passes_ranged limits v (Flow s t) (or_rest (not (v.flow s t)) (passes limits v (Flow s t)) h (ap not one)) in
      (leb-false v.segments s (search parts), leb-false v.segments t (search parts))
