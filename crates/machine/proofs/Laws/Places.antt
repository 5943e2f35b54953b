-- A tick leaves a place that refusal 13 lets pass, since every slot of a lawful policy has a tick; and the count goes round.
use Prim.Native.Nat.{ℕ, suc, ◌+◌, ◌%◌, ◌<◌}
use mathlib.Core.Path.{◌≡◌, refl, ◌∙◌, ap}
use mathlib.Core.Bool.{Bool, true, false, cond}
use native.Mathlib.Nat.{mod-add-mod, mod-eq_of_lt, add-zero}
use native.Mathlib.Omega.{arith}
use lib.Dec.{ltb}
use borrow.Author.Tests.{ltb-true, lt-ltb}
use Rattle.policy.specs.Limits.{Limits}
use Rattle.policy.specs.View.{View}
use Rattle.policy.specs.Lawful.{Lawful}
use Rattle.policy.proofs.Laws.Bools.{and_left, and_right}
use Rattle.machine.specs.declared.Place.{Place}
use Rattle.machine.specs.Place.{is_place, next_slot, next_used, moved, place_of, counts, count_after}

module _ (v : View) (place : Place) (h : is_place v place ≡ true) where
  pub slot_there : place.slot < v.slots
  unfolding is_place
  slot_there = ltb-true place.slot v.slots (and_left (ltb place.slot v.slots) (ltb place.used (v.ticks place.slot)) h)

  pub used_below : place.used < v.ticks place.slot
  unfolding is_place
  used_below = ltb-true place.used (v.ticks place.slot) (and_right (ltb place.slot v.slots) (ltb place.used (v.ticks place.slot)) h)

pub is_place_lem : (v : View) (slot used count : ℕ) → slot < v.slots → used < v.ticks slot → is_place v (place_of slot used count) ≡ true
unfolding is_place
is_place_lem v slot used count s u = rw (lt-ltb slot v.slots s, lt-ltb used (v.ticks slot) u)

pub moved_stays : (limits : Limits) (v : View) (place : Place) → Lawful limits v → is_place v place ≡ true → is_place v (moved v place) ≡ true
unfolding next_slot next_used
moved_stays limits v place w h = go (ltb (place.used + 1) (v.ticks place.slot)) refl (ltb (place.slot + 1) v.slots) refl
  where
    go : (a : Bool) → ltb (place.used + 1) (v.ticks place.slot) ≡ a → (b : Bool) → ltb (place.slot + 1) v.slots ≡ b
        → is_place v (place_of (cond a place.slot (cond b (place.slot + 1) 0)) (cond a (place.used + 1) 0) (count_after 1 place.count)) ≡ true
    go true e b f = is_place_lem v place.slot (place.used + 1) _ (slot_there v place h) (ltb-true _ _ e)
    go false e true f =
        let s = ltb-true _ _ f in
        is_place_lem v (place.slot + 1) 0 _ s (w.ticks_least (place.slot + 1) s)
    go false e false f = is_place_lem v 0 0 _ w.some_slot (w.ticks_least 0 w.some_slot)

-- So many ticks, and so many more.
pub count_none : (c : ℕ) → c < counts → count_after 0 c ≡ c
count_none c h = rw add-zero (mod-eq_of_lt h)

pub count_more : (c n k : ℕ) → count_after k (count_after n c) ≡ count_after (n + k) c
count_more c n k =
    let e : c + n + k ≡ c + (n + k) = omega arith in
    mod-add-mod (c + n) counts k ∙ ap (λ i. i % counts) e

pub count_one : (n c : ℕ) → count_after n (count_after 1 c) ≡ count_after (suc n) c
count_one n c =
    let e : 1 + n ≡ suc n = omega arith in
    count_more c 1 n ∙ ap (λ k. count_after k c) e

pub count_below : (n c : ℕ) → count_after n c < counts
count_below n c = omega arith
