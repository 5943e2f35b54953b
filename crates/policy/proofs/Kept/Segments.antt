-- A segment line that is let pass keeps what holds of the record: its id is the count, so it stands after the others and is tested
-- against them, and nothing of a later kind is there to be disturbed.
use Prim.Native.Nat.{ℕ, ◌≤◌, ◌<◌}
use mathlib.Core.Path.{◌≡◌, refl, sym, ◌∙◌}
use mathlib.Core.Bool.{true}
use native.Mathlib.Omega.{arith}
use borrow.Author.Count.{below_more}
use borrow.Author.Tests.{ltb-false, leb-false, eqb-true, not-false}
use lib.ListN.{get_or}
use Rattle.text.specs.declared.line.Line.TheVariants.{Segment}
use Rattle.policy.specs.declared.record.Key.{Key}
use Rattle.policy.specs.Limits.{Limits}
use Rattle.policy.specs.Order.{out_of_order}
use Rattle.policy.specs.Range.{out_of_range}
use Rattle.policy.specs.Tables.{Segments, Tables, view_of}
use Rattle.policy.specs.Draft.{with_segment, with_segments}
use Rattle.policy.specs.Sound.{first_segments, good_segment}
use Rattle.policy.proofs.Laws.Tests.{parts, passes_both}
use Rattle.policy.proofs.Laws.Stored.{stored_long, stored_at, stored_below, stored_rest}
use Rattle.policy.proofs.Laws.Same.{segment_same}
use Rattle.policy.proofs.Kept.{Kept, Passing, no_right, no_flow}

module _ (limits : Limits) (t : Tables) (before : Key) (id base size : ℕ) (k : Kept limits t before.kind)
    (f : Passing limits (view_of t) before (Segment id base size)) where
  abbrev a : Segments
  a = t.segments

  abbrev q : Tables
  q = with_segments t (with_segment a id base size)

  first : before.kind ≤ 0
  unfolding out_of_order
  first = let o = f.ordered in ltb-false 0 before.kind (search parts)

  here : id ≡ a.count
  unfolding out_of_order
  here = let o = f.ordered in eqb-true id a.count (not-false _ (search parts))

  room : id < limits.segments
  unfolding out_of_range
  room = let r = f.ranged in omega (arith, here, leb-false limits.segments a.count (search parts))

  older : (i : ℕ) → i < id → good_segment limits (view_of q) i ≡ true
  unfolding good_segment
  older i l =
      segment_same limits (view_of q) (first_segments (view_of t) i) i (get_or a.base i 0) (get_or a.size i 0)
      (stored_below a.base id base i l)
      (stored_below a.size id size i l)
      refl
      (λ j m. stored_below a.base id base j (omega arith))
      (λ j m. stored_below a.size id size j (omega arith))
      ∙ k.good.segment i (omega (arith, here))

  newest : good_segment limits (view_of q) id ≡ true
  newest =
      segment_same limits (view_of q) (view_of t) id base size
      (stored_at a.base id base limits.segments k.lengths.base room)
      (stored_at a.size id size limits.segments k.lengths.size room)
      (sym here)
      (stored_below a.base id base)
      (stored_below a.size id size)
      ∙ passes_both limits (view_of t) (Segment id base size) f.ranged f.clear

  pub kept_segment : Kept limits (with_segments t (with_segment t.segments id base size)) 0
  kept_segment =
      let e = here in
      let no-partition = k.later.partition first in
      let no_slot = k.later.slot (omega (arith, first)) in
      let rights = k.later.right (omega (arith, first)) in
      let flows = k.later.flow (omega (arith, first)) in
      record {
        lengths = search stored_long;
        counts = omega (arith, room);
        unused = search stored_rest;
        fit = search;
        good =
            record {
              segment = below_more (λ i. good_segment limits (view_of q) i ≡ true) id older newest;
              partition = λ i l. absurd (omega arith);
              right = λ p s l m. no_right limits (view_of q) p s (rights p s);
              flow = λ s u l m. no_flow limits (view_of q) s u (flows s u);
              slot = λ i l. absurd (omega arith);
            };
        later = record { partition = λ l. no-partition; right = λ l. rights; flow = λ l. flows; slot = λ l. no_slot };
      }
