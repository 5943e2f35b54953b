-- The test of an entry is that of the line that put it there: it asks only for that entry, those before it, and the counts it names.
use Prim.Native.Nat.{ℕ, ◌<◌}
use mathlib.Core.Path.{◌≡◌}
use Rattle.text.specs.declared.line.Line.TheVariants.{Segment, Partition, Slot}
use Rattle.policy.specs.Limits.{Limits}
use Rattle.policy.specs.View.{View}
use Rattle.policy.specs.Range.{out_of_range}
use Rattle.policy.specs.Clash.{clashes, overlaps, shares}
use Rattle.policy.specs.Sound.{passes, good_segment, good_partition, good_slot}
use Rattle.policy.proofs.Laws.Below.{some_same}

module _ (limits : Limits) (v w : View) (i : ℕ) where
  pub segment_same : (base size : ℕ) → v.base i ≡ base → v.size i ≡ size → w.segments ≡ i →
      ((j : ℕ) → j < i → v.base j ≡ w.base j) → ((j : ℕ) → j < i → v.size j ≡ w.size j) →
      good_segment limits v i ≡ passes limits w (Segment i base size)
  unfolding good_segment out_of_range clashes
  segment_same base size b s c bs ss =
      let o = some_same (overlaps v base size) (overlaps w base size) i (λ j l. rw (bs j l, ss j l)) in rw (b, s, c, o)

  pub partition_same : (code save : ℕ) → v.code i ≡ code → v.save i ≡ save → w.partitions ≡ i →
      v.segments ≡ w.segments → v.size save ≡ w.size save →
      ((j : ℕ) → j < i → v.code j ≡ w.code j) → ((j : ℕ) → j < i → v.save j ≡ w.save j) →
      good_partition limits v i ≡ passes limits w (Partition i code save)
  unfolding good_partition out_of_range clashes
  partition_same code save c s n m z cs ss =
      let o = some_same (shares v code save) (shares w code save) i (λ j l. rw (cs j l, ss j l)) in rw (c, s, n, m, z, o)

  pub slot_same : (owner ticks : ℕ) → v.owner i ≡ owner → v.ticks i ≡ ticks → w.slots ≡ i → v.partitions ≡ w.partitions →
      good_slot limits v i ≡ passes limits w (Slot owner ticks)
  unfolding good_slot out_of_range clashes
  slot_same owner ticks o t n m = rw (o, t, n, m)
