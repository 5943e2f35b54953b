-- Where a line fits a record, its numbers fit the entries: each bound is one of the tests that did not apply.
use Prim.Native.Nat.{ℕ, ◌+◌, ◌<◌, ◌≤◌}
use mathlib.Core.Path.{◌≡◌}
use mathlib.Core.Bool.{false}
use native.Mathlib.Omega.{arith}
use borrow.Author.Tests.{ltb-false, leb-false, eqb-true, not-false}
use lib.Dec.{leb, ltb}
use Rattle.text.specs.declared.line.Line.{Line}
use Rattle.text.specs.declared.line.Line.TheVariants.{Bad, Segment, Partition, Right, Flow, Slot}
use Rattle.policy.specs.Limits.{single}
use Rattle.policy.specs.View.{View}
use Rattle.policy.specs.Range.{outside, out_of_range}
use Rattle.policy.proofs.Laws.Bools.{or_both, or_all}
use Rattle.linerules.specs.Parts.{end_of, right_on, Fits}

pub range_ends : (v : View) (line : Line) → out_of_range single v line ≡ false → end_of line ≤ single.memory
unfolding out_of_range
range_ends v Bad h = omega arith
range_ends v (Segment id base size) h =
    ltb-false 16384 (base + size) (or_all (leb 32 v.segments) (outside 1 4096 size) (ltb 16384 (base + size)) h).1
range_ends v (Partition id code save) h = omega arith
range_ends v (Right partition segment mode) h = omega arith
range_ends v (Flow from to) h = omega arith
range_ends v (Slot partition ticks) h = omega arith

pub range_names : (v : View) (line : Line) → out_of_range single v line ≡ false → v.segments ≤ single.segments →
    right_on line < single.segments
unfolding out_of_range
range_names v Bad h few = omega arith
range_names v (Segment id base size) h few = omega arith
range_names v (Partition id code save) h few = omega arith
range_names v (Right partition segment mode) h few =
    let t = or_both (leb v.partitions partition) (leb v.segments segment) h in omega (arith, leb-false)
range_names v (Flow from to) h few = omega arith
range_names v (Slot partition ticks) h few = omega arith

module _ (v : View) where
  pub segment_fits : (id base size : ℕ) → Fits v (Segment id base size) → (id < 32) × (base < 65536) × (size < 65536)
  unfolding out_of_range
  segment_fits id base size f =
      let e = eqb-true id v.segments (not-false _ f.next_id) in
      let t = or_all (leb 32 v.segments) (outside 1 4096 size) (ltb 16384 (base + size)) f.in_range in
      omega (arith, leb-false, ltb-false)

  pub partition_fits : (id code save : ℕ) → Fits v (Partition id code save) → (id < 8) × (code < 32) × (save < 32)
  unfolding out_of_range
  partition_fits id code save f =
      let e = eqb-true id v.partitions (not-false _ f.next_id) in
      let t = or_all (leb 8 v.partitions) (leb v.segments code) (leb v.segments save) f.in_range in
      omega (arith, leb-false, ltb-false)

  pub right_fits : (partition segment mode : ℕ) → Fits v (Right partition segment mode) →
      (partition < 8) × (segment < 32)
  unfolding out_of_range
  right_fits partition segment mode f =
      let t = or_both (leb v.partitions partition) (leb v.segments segment) f.in_range in
      omega (arith, leb-false)

  pub flow_fits : (from to : ℕ) → Fits v (Flow from to) → (from < 32) × (to < 32)
  unfolding out_of_range
  flow_fits from to f =
      let t = or_both (leb v.segments from) (leb v.segments to) f.in_range in
      omega (arith, leb-false)

  pub slot_fits : (partition ticks : ℕ) → Fits v (Slot partition ticks) →
      (v.slots < 32) × (partition < 8) × (ticks < 65536)
  unfolding out_of_range
  slot_fits partition ticks f =
      let t = or_all (leb 32 v.slots) (leb v.partitions partition) (outside 1 1000 ticks) f.in_range in
      let u = or_both (ltb ticks 1) (ltb 1000 ticks) t.1 in
      omega (arith, leb-false, ltb-false)
