-- A right line that is let pass keeps what holds of the record: a pair that stands after it stood before or is its own, and nothing
-- else asks for a right.
use Prim.Native.Nat.{ℕ, ◌≤◌, ◌<◌}
use mathlib.Core.Path.{◌≡◌, refl}
use mathlib.Core.Bool.{Bool, true, false, ◌&&◌, and-false, or-true, or-false}
use native.Mathlib.Omega.{arith}
use borrow.Author.Tests.{ltb-false, leb-false, eqb-true}
use lib.Dec.{eqb}
use Rattle.text.specs.declared.line.Line.TheVariants.{Right}
use Rattle.policy.specs.declared.record.Key.{Key}
use Rattle.policy.specs.Limits.{Limits}
use Rattle.policy.specs.Modes.{gives_read, gives_write}
use Rattle.policy.specs.Order.{out_of_order}
use Rattle.policy.specs.Range.{out_of_range}
use Rattle.policy.specs.Clash.{clashes}
use Rattle.policy.specs.Tables.{Rights, Tables, view_of}
use Rattle.policy.specs.Draft.{with_right, with_rights}
use Rattle.policy.specs.Sound.{good_segment, good_partition, good_right, good_flow, good_slot}
use Rattle.policy.proofs.Laws.Bools.{and_left, and_right}
use Rattle.policy.proofs.Laws.Tests.{parts, passes_both}
use Rattle.policy.proofs.Laws.Bits.{bit_where, long_where, under_where}
use Rattle.policy.proofs.Kept.{Kept, Passing}

module _ (limits : Limits) (t : Tables) (before : Key) (partition segment mode : ℕ) (k : Kept limits t before.kind)
    (f : Passing limits (view_of t) before (Right partition segment mode)) where
  abbrev a : Rights
  a = t.rights

  abbrev q : Tables
  q = with_rights t (with_right a partition segment mode)

  early : before.kind ≤ 2
  unfolding out_of_order
  early = let o = f.ordered in ltb-false 2 before.kind (search parts)

  row : partition < limits.partitions
  unfolding out_of_range
  row = let r = f.ranged in omega (arith, leb-false t.partitions.count partition (search parts))

  column : segment < limits.segments
  unfolding out_of_range
  column = let r = f.ranged in omega (arith, leb-false t.segments.count segment (search parts))

  pairs : (p s : ℕ) → p < limits.partitions → s < limits.segments → good_right limits (view_of q) p s ≡ true
  unfolding good_right out_of_range clashes
  pairs p s l m = go (eqb p partition && eqb s segment) refl
    where
      go : (b : Bool) → eqb p partition && eqb s segment ≡ b → good_right limits (view_of q) p s ≡ true
      go true e =
          let same_row = eqb-true p partition (and_left _ _ e) in
          let same-column = eqb-true s segment (and_right (eqb p partition) _ e) in
          rw (same_row, same-column, passes_both limits (view_of t) (Right partition segment mode) f.ranged f.clear, or-true)
      go false e =
          rw (
            bit_where a.reads limits.partitions k.lengths.reads partition segment row (gives_read mode) p s,
            bit_where a.writes limits.partitions k.lengths.writes partition segment row (gives_write mode) p s,
            e,
          )
          (simp (and-false, or-false) (k.good.right p s l m))

  pub kept_right : Kept limits (with_rights t (with_right t.rights partition segment mode)) 2
  unfolding good_segment good_partition good_flow good_slot out_of_range clashes
  kept_right =
      let r = row in
      let c = column in
      record {
        lengths = search long_where;
        counts = search;
        unused = search;
        fit = search under_where;
        good =
            record {
              segment = k.good.segment;
              partition = k.good.partition;
              right = pairs;
              flow = k.good.flow;
              slot = k.good.slot;
            };
        later =
            record {
              partition = λ l. absurd (omega arith);
              right = λ l. absurd (omega arith);
              flow = λ l. k.later.flow early;
              slot = λ l. k.later.slot (omega (arith, early));
            };
      }
