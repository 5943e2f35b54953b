-- A partition line that is let pass keeps what holds of the record: its id is the count, so it stands after the others and is tested
-- against them; segments and flows ask for no partition, and no right or slot is there yet.
use Prim.Native.Nat.{ℕ, ◌≤◌, ◌<◌}
use mathlib.Core.Path.{◌≡◌, refl, sym, ◌∙◌}
use mathlib.Core.Bool.{true}
use native.Mathlib.Omega.{arith}
use borrow.Author.Count.{below_more}
use borrow.Author.Tests.{ltb-false, leb-false, eqb-true, not-false}
use lib.ListN.{get_or}
use Rattle.text.specs.declared.line.Line.TheVariants.{Partition}
use Rattle.policy.specs.declared.record.Key.{Key}
use Rattle.policy.specs.Limits.{Limits}
use Rattle.policy.specs.Order.{out_of_order}
use Rattle.policy.specs.Range.{out_of_range}
use Rattle.policy.specs.Clash.{clashes}
use Rattle.policy.specs.Tables.{Partitions, Tables, view_of}
use Rattle.policy.specs.Draft.{with_partition, with_partitions}
use Rattle.policy.specs.Sound.{first_partitions, good_segment, good_partition, good_flow}
use Rattle.policy.proofs.Laws.Tests.{parts, passes_both}
use Rattle.policy.proofs.Laws.Stored.{stored_long, stored_at, stored_below, stored_rest}
use Rattle.policy.proofs.Laws.Same.{partition_same}
use Rattle.policy.proofs.Kept.{Kept, Passing, no_right}

module _ (limits : Limits) (t : Tables) (before : Key) (id code save : ℕ) (k : Kept limits t before.kind)
    (f : Passing limits (view_of t) before (Partition id code save)) where
  abbrev a : Partitions
  a = t.partitions

  abbrev q : Tables
  q = with_partitions t (with_partition a id code save)

  early : before.kind ≤ 1
  unfolding out_of_order
  early = let o = f.ordered in ltb-false 1 before.kind (search parts)

  here : id ≡ a.count
  unfolding out_of_order
  here = let o = f.ordered in eqb-true id a.count (not-false _ (search parts))

  room : id < limits.partitions
  unfolding out_of_range
  room = let r = f.ranged in omega (arith, here, leb-false limits.partitions a.count (search parts))

  older : (i : ℕ) → i < id → good_partition limits (view_of q) i ≡ true
  unfolding good_partition
  older i l =
      partition_same limits (view_of q) (first_partitions (view_of t) i) i (get_or a.code i 0) (get_or a.save i 0)
      (stored_below a.code id code i l)
      (stored_below a.save id save i l)
      refl
      refl
      refl
      (λ j m. stored_below a.code id code j (omega arith))
      (λ j m. stored_below a.save id save j (omega arith))
      ∙ k.good.partition i (omega (arith, here))

  newest : good_partition limits (view_of q) id ≡ true
  newest =
      partition_same limits (view_of q) (view_of t) id code save
      (stored_at a.code id code limits.partitions k.lengths.code room)
      (stored_at a.save id save limits.partitions k.lengths.save room)
      (sym here)
      refl
      refl
      (stored_below a.code id code)
      (stored_below a.save id save)
      ∙ passes_both limits (view_of t) (Partition id code save) f.ranged f.clear

  pub kept_partition : Kept limits (with_partitions t (with_partition t.partitions id code save)) 1
  unfolding good_segment good_flow out_of_range clashes
  kept_partition =
      let e = here in
      let no_slot = k.later.slot (omega (arith, early)) in
      let rights = k.later.right early in
      record {
        lengths = search stored_long;
        counts = omega (arith, room);
        unused = search stored_rest;
        fit = search;
        good =
            record {
              segment = k.good.segment;
              partition = below_more (λ i. good_partition limits (view_of q) i ≡ true) id older newest;
              right = λ p s l m. no_right limits (view_of q) p s (rights p s);
              flow = k.good.flow;
              slot = λ i l. absurd (omega arith);
            };
        later =
            record {
              partition = λ l. absurd (omega arith);
              right = λ l. rights;
              flow = λ l. k.later.flow (omega (arith, early));
              slot = λ l. no_slot;
            };
      }
