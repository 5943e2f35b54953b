-- The place stays in its slot while the slot's ticks last, and with the last of them goes to the next; the count gains them all: by induction on
-- the ticks.
use Prim.Native.Nat.{ℕ, zero, suc, ◌+◌, ◌-◌, ◌≤◌, ◌<◌}
use mathlib.Core.Path.{◌≡◌, ◌∙◌, ap, ap₂}
use mathlib.Core.Bool.{cond}
use native.Mathlib.Nat.{add-zero}
use native.Mathlib.Omega.{arith}
use lib.Dec.{ltb}
use borrow.Author.Tests.{lt-ltb, le-ltb}
use Rattle.policy.specs.View.{View}
use Rattle.machine.specs.declared.Place.{Place}
use Rattle.machine.specs.Place.{next_slot, next_used, moved, place_of, counts, count_after}
use Rattle.machine.proofs.Laws.Places.{count_none, count_one, count_below}
use Rattle.schedule.specs.Places.{moved_by, slot_after}

module _ (v : View) where
  pub moved_within : (place : Place) → place.used + 1 < v.ticks place.slot → moved v place ≡ place_of place.slot (place.used + 1) (count_after 1 place.count)
  unfolding next_slot next_used
  moved_within place h = rw (lt-ltb _ _ h)

  pub moved_by_within : (n : ℕ) (place : Place) → place.count < counts → place.used + n < v.ticks place.slot
      → moved_by v n place ≡ place_of place.slot (place.used + n) (count_after n place.count)
  unfolding moved_by
  moved_by_within zero place small h = rw (add-zero place.used, count_none place.count small)
  moved_by_within (suc n) place small h =
      let later : place.used + 1 + n ≡ place.used + suc n = omega arith in
      rw (moved_within place (omega arith))
      (moved_by_within n (place_of place.slot (place.used + 1) (count_after 1 place.count)) (count_below 1 place.count) (omega arith)
      ∙ ap₂ (place_of place.slot) later (count_one n place.count))

  -- With the last tick of the slot the next begins, or slot 0.
  pub moved_by_over : (n : ℕ) (place : Place) → 0 < n → place.used + n ≡ v.ticks place.slot
      → moved_by v n place ≡ place_of (cond (ltb (place.slot + 1) v.slots) (place.slot + 1) 0) 0 (count_after n place.count)
  unfolding next_slot next_used moved_by
  moved_by_over zero place some e = absurd (omega arith)
  moved_by_over (suc zero) place some e = rw (le-ltb (place.used + 1) (v.ticks place.slot) (omega arith))
  moved_by_over (suc (suc n)) place some e =
      rw (lt-ltb (place.used + 1) (v.ticks place.slot) (omega arith))
      (moved_by_over (suc n) (place_of place.slot (place.used + 1) (count_after 1 place.count)) (omega arith) (omega arith)
      ∙ ap (place_of (cond (ltb (place.slot + 1) v.slots) (place.slot + 1) 0) 0) (count_one (suc n) place.count))

  -- By the ticks that the slot has left: after fewer of them it has as many less left, and after all of them the next slot begins.
  pub moved_in : (slot left count n : ℕ) → count < counts → n < left → left ≤ v.ticks slot
      → moved_by v n (place_of slot (v.ticks slot - left) count) ≡ place_of slot (v.ticks slot - (left - n)) (count_after n count)
  moved_in slot left count n small few most =
      let used : v.ticks slot - left + n ≡ v.ticks slot - (left - n) = omega (arith, few, most) in
      moved_by_within n (place_of slot (v.ticks slot - left) count) small (omega (arith, few, most)) ∙ ap (λ u. place_of slot u (count_after n count)) used

  pub moved_out : (slot left count : ℕ) → 0 < left → left ≤ v.ticks slot
      → moved_by v left (place_of slot (v.ticks slot - left) count) ≡ place_of (slot_after v.slots slot) 0 (count_after left count)
  moved_out slot left count some most = moved_by_over left (place_of slot (v.ticks slot - left) count) some (omega (arith, most))
