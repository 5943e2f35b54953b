-- A slot line that is let pass keeps what holds of the record: it stands after the other slots, and nothing else asks for a slot.
use Prim.Native.Nat.{ℕ, ◌<◌}
use mathlib.Core.Path.{◌≡◌, refl, ◌∙◌}
use mathlib.Core.Bool.{true}
use native.Mathlib.Omega.{arith}
use borrow.Author.Count.{below_more}
use borrow.Author.Tests.{leb-false}
use lib.ListN.{get_or}
use Rattle.text.specs.declared.line.Line.TheVariants.{Slot}
use Rattle.policy.specs.declared.record.Key.{Key}
use Rattle.policy.specs.Limits.{Limits}
use Rattle.policy.specs.Range.{out_of_range}
use Rattle.policy.specs.Clash.{clashes}
use Rattle.policy.specs.Tables.{Slots, Tables, view_of}
use Rattle.policy.specs.Draft.{with_slot, with_slots}
use Rattle.policy.specs.Sound.{first_slots, good_segment, good_partition, good_right, good_flow, good_slot}
use Rattle.policy.proofs.Laws.Tests.{parts, passes_both}
use Rattle.policy.proofs.Laws.Stored.{stored_long, stored_at, stored_below, stored_rest}
use Rattle.policy.proofs.Laws.Same.{slot_same}
use Rattle.policy.proofs.Kept.{Kept, Passing}

module _ (limits : Limits) (t : Tables) (before : Key) (owner ticks : ℕ) (k : Kept limits t before.kind)
    (f : Passing limits (view_of t) before (Slot owner ticks)) where
  abbrev a : Slots
  a = t.slots

  abbrev q : Tables
  q = with_slots t (with_slot a owner ticks)

  room : a.count < limits.slots
  unfolding out_of_range
  room = let r = f.ranged in leb-false limits.slots a.count (search parts)

  older : (i : ℕ) → i < a.count → good_slot limits (view_of q) i ≡ true
  unfolding good_slot
  older i l =
      slot_same limits (view_of q) (first_slots (view_of t) i) i (get_or a.owner i 0) (get_or a.ticks i 0)
      (stored_below a.owner a.count owner i l)
      (stored_below a.ticks a.count ticks i l)
      refl
      refl
      ∙ k.good.slot i l

  newest : good_slot limits (view_of q) a.count ≡ true
  newest =
      slot_same limits (view_of q) (view_of t) a.count owner ticks
      (stored_at a.owner a.count owner limits.slots k.lengths.owner room)
      (stored_at a.ticks a.count ticks limits.slots k.lengths.ticks room)
      refl
      refl
      ∙ passes_both limits (view_of t) (Slot owner ticks) f.ranged f.clear

  pub kept_slot : Kept limits (with_slots t (with_slot t.slots owner ticks)) 4
  unfolding good_segment good_partition good_right good_flow out_of_range clashes
  kept_slot =
      record {
        lengths = search stored_long;
        counts = omega (arith, room);
        unused = search stored_rest;
        fit = search;
        good =
            record {
              segment = k.good.segment;
              partition = k.good.partition;
              right = k.good.right;
              flow = k.good.flow;
              slot = below_more (λ i. good_slot limits (view_of q) i ≡ true) a.count older newest;
            };
        later =
            record {
              partition = λ l. absurd (omega arith);
              right = λ l. absurd (omega arith);
              flow = λ l. absurd (omega arith);
              slot = λ l. absurd (omega arith);
            };
      }
