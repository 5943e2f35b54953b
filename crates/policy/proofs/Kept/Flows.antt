-- A flow line that is let pass keeps what holds of the record: a pair that stands after it stood before or is its own, and nothing
-- else asks for a flow.
use Prim.Native.Nat.{ℕ, ◌≤◌, ◌<◌}
use mathlib.Core.Path.{◌≡◌, refl}
use mathlib.Core.Bool.{Bool, true, false, ◌&&◌, or-true, or-false}
use native.Mathlib.Omega.{arith}
use borrow.Author.Tests.{ltb-false, leb-false, eqb-true}
use lib.Dec.{eqb}
use Rattle.text.specs.declared.line.Line.TheVariants.{Flow}
use Rattle.policy.specs.declared.record.Key.{Key}
use Rattle.policy.specs.Limits.{Limits}
use Rattle.policy.specs.Order.{out_of_order}
use Rattle.policy.specs.Range.{out_of_range}
use Rattle.policy.specs.Clash.{clashes}
use Rattle.policy.specs.Tables.{Tables, view_of}
use Rattle.policy.specs.Draft.{with_flow, with_flows}
use Rattle.policy.specs.Sound.{good_segment, good_partition, good_right, good_flow, good_slot}
use Rattle.policy.proofs.Laws.Bools.{and_left, and_right}
use Rattle.policy.proofs.Laws.Tests.{parts, passes_both}
use Rattle.policy.proofs.Laws.Bits.{bit_at, bit_long, bit_under}
use Rattle.policy.proofs.Kept.{Kept, Passing}

module _ (limits : Limits) (t : Tables) (before : Key) (from to : ℕ) (k : Kept limits t before.kind)
    (f : Passing limits (view_of t) before (Flow from to)) where
  abbrev q : Tables
  q = with_flows t (with_flow t.flows from to)

  early : before.kind ≤ 3
  unfolding out_of_order
  early = let o = f.ordered in ltb-false 3 before.kind (search parts)

  source : from < limits.segments
  unfolding out_of_range
  source = let r = f.ranged in omega (arith, leb-false t.segments.count from (search parts))

  target : to < limits.segments
  unfolding out_of_range
  target = let r = f.ranged in omega (arith, leb-false t.segments.count to (search parts))

  pairs : (s u : ℕ) → s < limits.segments → u < limits.segments → good_flow limits (view_of q) s u ≡ true
  unfolding good_flow out_of_range clashes
  pairs s u l m = go (eqb u to && eqb s from) refl
    where
      go : (b : Bool) → eqb u to && eqb s from ≡ b → good_flow limits (view_of q) s u ≡ true
      go true e =
          let same_target = eqb-true u to (and_left _ _ e) in
          let same_source = eqb-true s from (and_right (eqb u to) _ e) in
          rw (same_target, same_source, passes_both limits (view_of t) (Flow from to) f.ranged f.clear, or-true)
      go false e =
          rw (bit_at t.flows.sources limits.segments k.lengths.sources to from target u s, e, or-false)
          (k.good.flow s u l m)

  pub kept_flow : Kept limits (with_flows t (with_flow t.flows from to)) 3
  unfolding good_segment good_partition good_right good_slot out_of_range clashes
  kept_flow =
      let s = source in
      let u = target in
      record {
        lengths = search bit_long;
        counts = search;
        unused = search;
        fit = search bit_under;
        good =
            record {
              segment = k.good.segment;
              partition = k.good.partition;
              right = k.good.right;
              flow = pairs;
              slot = k.good.slot;
            };
        later =
            record {
              partition = λ l. absurd (omega arith);
              right = λ l. absurd (omega arith);
              flow = λ l. absurd (omega arith);
              slot = λ l. k.later.slot early;
            };
      }
