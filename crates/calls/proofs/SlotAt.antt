-- S-7's theorem that ties the sheet to the machine: the place after i ticks stands in the slot of the i-th tick. By induction on the ticks.
use Prim.Native.Nat.{ℕ, zero, suc, ◌+◌, ◌%◌}
use mathlib.Core.Path.{◌≡◌, ap, sym, ◌∙◌}
use mathlib.Core.Bool.{true}
use native.Mathlib.Nat.{add-zero, zero-add, mod-add-mod}
use native.Mathlib.Omega.{arith}
use Rattle.policy.specs.Below.{sum_below}
use Rattle.policy.specs.Limits.{Limits}
use Rattle.policy.specs.View.{View}
use Rattle.policy.specs.Lawful.{Lawful}
use Rattle.policy.specs.Schedule.{round_ticks, booked, slot_in, slot_at}
use Rattle.machine.specs.Place.{place_of, is_place, moved, position}
use Rattle.machine.specs.Machine.{State, next}
use Rattle.machine.proofs.Laws.Places.{is_place_lem, moved_stays}
use Rattle.machine.proofs.Laws.Positions.{at_position, moved_position}
use Rattle.calls.specs.Run.{state_of, after_ticks}
use Rattle.calls.specs.Current.{StandsIn, CurrentAt}

module _ (limits : Limits) (v : View) (w : Lawful limits v) where
  slot_after_ticks : (i : ℕ) (x : State) → is_place v x.place ≡ true → (after_ticks v i x).place.slot ≡ slot_at v (position v x.place + i)
  unfolding after_ticks next slot_at
  slot_after_ticks zero x h = rw add-zero (sym (at_position v x.place h))
  slot_after_ticks (suc i) x h =
      slot_after_ticks i (next v x) (moved_stays limits v x.place w h)
      ∙ ap (slot_in v v.slots) (later (position v x.place) (position v (moved v x.place)) (moved_position v x.place h limits w))
    where
      later : (a b : ℕ) → b ≡ (a + 1) % round_ticks v → (b + i) % round_ticks v ≡ (a + suc i) % round_ticks v
      later a b e =
          let one : a + 1 + i ≡ a + suc i = omega arith in
          rw e (mod-add-mod (a + 1) (round_ticks v) i ∙ ap (λ k. k % round_ticks v) one)

  pub slot_at_lem : StandsIn v
  slot_at_lem memory place h i = slot_after_ticks i (state_of memory place) h

  pub current_at : CurrentAt v
  unfolding sum_below
  current_at memory count i =
      let first = is_place_lem v 0 0 count w.some_slot (w.ticks_least 0 w.some_slot) in
      ap (booked v) (slot_at_lem memory (place_of 0 0 count) first i ∙ rw (zero-add i))
