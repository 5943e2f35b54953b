-- Two rounds gone through without coming round: place x, below two times the slots, is slot x or, in the second round, slot x - slots.
use Prim.Native.Nat.{ℕ, zero, suc, ◌+◌, ◌-◌, ◌<◌, ◌≤◌}
use mathlib.Core.Path.{◌≡◌, refl, sym, ap, ◌∙◌}
use mathlib.Core.Bool.{Bool, true, false, cond, true≢false}
use native.Mathlib.Nat.{add-zero, suc-add}
use native.Mathlib.Omega.{arith}
use native.Mathlib.Decide.{dec_lt}
use lib.Dec.{ltb}
use borrow.Author.Tests.{lt-ltb, le-ltb}
use Rattle.policy.specs.Below.{sum_below}
use Rattle.policy.specs.View.{View}
use Rattle.policy.specs.Schedule.{is_booked, has_slot, slot_after, gap_from}
use Rattle.policy.proofs.Laws.Below.{Passing, some_at}
use Rattle.policy.proofs.Laws.Sums.{sum_more}

module _ (n : ℕ) where
  abbrev pub slot : ℕ → ℕ
  slot x = cond (ltb x n) x (x - n)

  -- What the places before x are worth together.
  abbrev pub before : (ℕ → ℕ) → ℕ → ℕ
  before f x = cond (ltb x n) (sum_below x f) (sum_below n f + sum_below (x - n) f)

  pub slot_first : (x : ℕ) → x < n → slot x ≡ x
  slot_first x l = rw (lt-ltb x n l)

  pub slot_second : (x : ℕ) → n ≤ x → slot x ≡ x - n
  slot_second x l = rw (le-ltb x n l)

  pub slot_below : (x : ℕ) → x < n + n → slot x < n
  slot_below x l = go (dec_lt x n)
    where
      go : Dec (x < n) → slot x < n
      go (yes h) = rw (lt-ltb x n h) h
      go (no h) = rw (le-ltb x n (omega arith)) (omega arith)

  -- A place is met once in a window of one round.
  pub slot_apart : (x y : ℕ) → x < y → y < x + n → y < n + n → slot x ≡ slot y → ⊥
  slot_apart x y l m h = go (dec_lt x n) (dec_lt y n)
    where
      go : Dec (x < n) → Dec (y < n) → slot x ≡ slot y → ⊥
      go (yes a) (yes b) e = omega (arith, slot_first x a, slot_first y b, e)
      go (yes a) (no b) e = omega (arith, slot_first x a, slot_second y (omega arith), e)
      go (no a) b e = omega (arith, slot_second x (omega arith), slot_second y (omega arith), e)

  module _ (f : ℕ → ℕ) where
    pub before_first : (x : ℕ) → x < n → before f x ≡ sum_below x f
    before_first x l = rw (lt-ltb x n l)

    pub before_second : (x : ℕ) → n ≤ x → before f x ≡ sum_below n f + sum_below (x - n) f
    before_second x l = rw (le-ltb x n l)

    pub before_more : (x : ℕ) → before f (x + 1) ≡ before f x + f (slot x)
    unfolding sum_below
    before_more x = go (dec_lt x n) (dec_lt (x + 1) n)
      where
        go : Dec (x < n) → Dec (x + 1 < n) → before f (x + 1) ≡ before f x + f (slot x)
        go (yes a) (yes b) = rw (lt-ltb x n a, lt-ltb (x + 1) n b) (sum_more f x)
        go (yes a) (no b) =
            let q : n ≡ x + 1 = omega arith in
            let z : x + 1 - n ≡ 0 = omega arith in
            rw (lt-ltb x n a, le-ltb (x + 1) n (omega arith), z, add-zero, q) (sum_more f x)
        go (no a) b =
            let q : x + 1 - n ≡ x - n + 1 = omega arith in
            rw (le-ltb x n (omega arith), le-ltb (x + 1) n (omega arith), q, sum_more f (x - n)) (omega arith)

-- A slot booked under p, at x or after it and within one round.
pub record Ahead (v : View) (p x : ℕ) : Type 0 where
  pub place : ℕ
  pub from : x ≤ place
  pub within : place < x + v.slots
  pub own : is_booked v p (slot v.slots place) ≡ true

-- The gap from a place, slot by slot.
module _ (v : View) (p : ℕ) where
  pub own_ahead : has_slot v p ≡ true → (x : ℕ) → x < v.slots → Ahead v p x
  own_ahead h x l = go (some_at (is_booked v p) v.slots h)
    where
      found : (j : ℕ) → j < v.slots → is_booked v p j ≡ true → Dec (j < x) → Ahead v p x
      found j b e (yes c) =
          let s : slot v.slots (j + v.slots) ≡ j = slot_second v.slots (j + v.slots) (omega arith) ∙ omega arith in
          record { place = j + v.slots; from = omega arith; within = omega arith; own = rw s e }
      found j b e (no c) = record { place = j; from = omega arith; within = omega arith; own = rw (slot_first v.slots j b) e }

      go : Passing (is_booked v p) v.slots → Ahead v p x
      go a = found a.number a.below a.passes (dec_lt a.number x)

  pub slot_after_lem : (x : ℕ) → x + 1 < v.slots + v.slots → slot_after v (slot v.slots x) ≡ slot v.slots (x + 1)
  slot_after_lem x l = go (dec_lt x v.slots) (dec_lt (x + 1) v.slots)
    where
      go : Dec (x < v.slots) → Dec (x + 1 < v.slots) → slot_after v (slot v.slots x) ≡ slot v.slots (x + 1)
      go (yes a) (yes b) = rw (slot_first v.slots x a, lt-ltb (x + 1) v.slots b)
      go (yes a) (no b) =
          let z : 0 ≡ x + 1 - v.slots = omega arith in
          rw (slot_first v.slots x a, le-ltb (x + 1) v.slots (omega arith)) z
      go (no a) b =
          let q : x - v.slots + 1 ≡ x + 1 - v.slots = omega arith in
          rw (slot_second v.slots x (omega arith), le-ltb (x + 1) v.slots (omega arith), lt-ltb (x - v.slots + 1) v.slots (omega arith)) q

  pub gap_more : (m x : ℕ) → x + suc m ≤ v.slots + v.slots →
      gap_from v p (suc m) (slot v.slots x)
      ≡ cond (is_booked v p (slot v.slots x)) 0 (v.ticks (slot v.slots x) + gap_from v p m (slot v.slots (x + 1)))
  unfolding gap_from
  gap_more zero x h = refl
  gap_more (suc m) x h = rw (slot_after_lem x (omega arith))

  -- More slots than it takes to p's next one add nothing.
  gap_enough_to : (m e x y : ℕ) → x + m ≤ v.slots + v.slots → x ≤ y → y < x + m → is_booked v p (slot v.slots y) ≡ true →
      gap_from v p (m + e) (slot v.slots x) ≡ gap_from v p m (slot v.slots x)
  unfolding gap_from
  gap_enough_to zero e x y h a b own = absurd (omega arith)
  gap_enough_to (suc m) e x y h a b own = rw suc-add (go (is_booked v p (slot v.slots x)) refl (dec_lt x y) (λ l. gap_enough_to m e (x + 1) y (omega arith) l (omega arith) own))
    where
      here : ℕ
      here = slot v.slots x

      go : (c : Bool) → is_booked v p here ≡ c → Dec (x < y) →
          (x + 1 ≤ y → gap_from v p (m + e) (slot v.slots (x + 1)) ≡ gap_from v p m (slot v.slots (x + 1))) →
          cond (is_booked v p here) 0 (v.ticks here + gap_from v p (m + e) (slot_after v here))
          ≡ cond (is_booked v p here) 0 (v.ticks here + gap_from v p m (slot_after v here))
      go true q d more = rw q
      go false q (yes l) more = rw (q, slot_after_lem x (omega arith), more (omega arith))
      go false q (no l) more =
          let z : x ≡ y = omega arith in
          absurd (true≢false (sym own ∙ sym (ap (λ y. is_booked v p (slot v.slots y)) z) ∙ q))

  pub gap_enough : has_slot v p ≡ true → (e x : ℕ) → x < v.slots → gap_from v p (v.slots + e) x ≡ gap_from v p v.slots x
  gap_enough h e x l =
      let a = own_ahead h x l in
      rw (slot_first v.slots x l) at (gap_enough_to v.slots e x a.place (omega arith) a.from a.within a.own)
