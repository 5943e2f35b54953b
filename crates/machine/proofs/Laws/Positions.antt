-- A place stands in the slot of its position, and a tick moves the position on by one, round the end.
use Prim.Native.Nat.{◌+◌, ◌%◌, ◌<◌, ◌≤◌}
use mathlib.Core.Path.{◌≡◌, refl, sym, ap, ◌∙◌}
use mathlib.Core.Bool.{Bool, true, false, cond}
use native.Mathlib.Nat.{mod-eq_of_lt, mod_self}
use native.Mathlib.Omega.{arith}
use lib.Dec.{ltb}
use borrow.Author.Tests.{ltb-true, ltb-false}
use Rattle.policy.specs.Below.{sum_below}
use Rattle.policy.specs.Limits.{Limits}
use Rattle.policy.specs.View.{View}
use Rattle.policy.specs.Lawful.{Lawful}
use Rattle.policy.specs.Schedule.{ticks_before, round_ticks, slot_at}
use Rattle.policy.proofs.Laws.Sums.{sum_more, sum_within}
use Rattle.policy.proofs.Laws.Slots.{slot_in_lem}
use Rattle.machine.specs.declared.Place.{Place}
use Rattle.machine.specs.Place.{is_place, next_slot, next_used, moved, place_of, position}
use Rattle.machine.proofs.Laws.Places.{slot_there, used_below}

module _ (v : View) (place : Place) (h : is_place v place ≡ true) where
  position_below : position v place < round_ticks v
  position_below =
      omega (arith, used_below v place h, sum_within v.ticks v.slots place.slot (slot_there v place h))

  pub at_position : slot_at v (position v place) ≡ place.slot
  unfolding slot_at
  at_position =
      rw (mod-eq_of_lt position_below)
      (slot_in_lem v v.slots place.slot (position v place) (slot_there v place h)
      (record { begun = omega arith; going = omega (arith, used_below v place h) }))

  pub moved_position : (limits : Limits) → Lawful limits v → position v (moved v place) ≡ (position v place + 1) % round_ticks v
  unfolding next_slot next_used sum_below
  moved_position limits w = go (ltb (place.used + 1) (v.ticks place.slot)) refl (ltb (place.slot + 1) v.slots) refl
    where
      whole : ticks_before v place.slot + v.ticks place.slot ≤ round_ticks v
      whole = sum_within v.ticks v.slots place.slot (slot_there v place h)

      go : (a : Bool) → ltb (place.used + 1) (v.ticks place.slot) ≡ a → (b : Bool) → ltb (place.slot + 1) v.slots ≡ b →
          position v (place_of (cond a place.slot (cond b (place.slot + 1) 0)) (cond a (place.used + 1) 0) 0)
          ≡ (position v place + 1) % round_ticks v
      go true e b f = sym (mod-eq_of_lt (omega (arith, ltb-true (place.used + 1) (v.ticks place.slot) e, whole)) ∙ omega arith)
      go false e true f =
          let later = ltb-true (place.slot + 1) v.slots f in
          let next = sum_more v.ticks place.slot in
          let end : position v place + 1 ≡ sum_below (place.slot + 1) v.ticks + 0 = omega (arith, ltb-false (place.used + 1) (v.ticks place.slot) e, used_below v place h, next) in
          sym (ap (λ i. i % round_ticks v) end
          ∙ mod-eq_of_lt (omega (arith, w.ticks_least (place.slot + 1) later, sum_within v.ticks v.slots (place.slot + 1) later)))
      go false e false f =
          let last : v.slots ≡ place.slot + 1 = omega (arith, slot_there v place h, ltb-false (place.slot + 1) v.slots f) in
          let end : position v place + 1 ≡ round_ticks v = omega (arith, ltb-false (place.used + 1) (v.ticks place.slot) e, used_below v place h, ap (ticks_before v) last, sum_more v.ticks place.slot) in
          sym (ap (λ i. i % round_ticks v) end ∙ mod_self (round_ticks v))
