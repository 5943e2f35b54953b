-- The slot of a tick, by the ticks before it; the ticks of a gap, and the tick after it.
use Prim.Native.Nat.{ℕ, zero, suc, ◌+◌, ◌-◌, ◌%◌, ◌<◌, ◌≤◌}
use mathlib.Core.Path.{◌≡◌, refl, sym, ap, ◌∙◌}
use mathlib.Core.Bool.{Bool, true, false, cond, true≢false}
use native.Mathlib.Nat.{mod-eq_of_lt, mod-eq-sub-mod}
use native.Mathlib.Omega.{arith}
use native.Mathlib.Decide.{dec_lt}
use lib.Dec.{leb}
use borrow.Author.Tests.{eqb-true, eqb-false, leb-true, leb-false, le-leb, lt-leb}
use Rattle.policy.specs.Below.{sum_below}
use Rattle.policy.specs.View.{View}
use Rattle.policy.specs.Schedule.{ticks_before, round_ticks, booked, is_booked, slot_in, slot_at, gap_from}
use Rattle.policy.proofs.Laws.Sums.{sum_within}
use Rattle.policy.proofs.Laws.Rounds.{slot, before, before_first, before_second, before_more, slot_first, slot_second, slot_below, gap_more}

module _ (v : View) where
  -- The k-th slot has the tick.
  pub record InSlot (k i : ℕ) : Type 0 where
    pub begun : ticks_before v k ≤ i
    pub going : i < ticks_before v k + v.ticks k

  pub slot_in_lem : (n k i : ℕ) → k < n → InSlot k i → slot_in v n i ≡ k
  unfolding slot_in
  slot_in_lem zero k i l t = absurd (omega arith)
  slot_in_lem (suc n) k i l t = go (dec_lt k n) (slot_in_lem n k i)
    where
      go : Dec (k < n) → (k < n → InSlot k i → slot_in v n i ≡ k) → cond (leb (ticks_before v n) i) n (slot_in v n i) ≡ k
      go (yes g) more =
          rw (lt-leb (ticks_before v n) i (omega (arith, t.going, sum_within v.ticks n k g))) (more g t)
      go (no g) more = let q : n ≡ k = omega arith in rw (q, le-leb (ticks_before v k) i t.begun)

  pub slot_found : (n i : ℕ) → i < ticks_before v n → (slot_in v n i < n) × InSlot (slot_in v n i) i
  unfolding slot_in sum_below
  slot_found zero i l = absurd (omega arith)
  slot_found (suc n) i l = go (leb (ticks_before v n) i) refl (slot_found n i)
    where
      go : (b : Bool) → leb (ticks_before v n) i ≡ b → (i < ticks_before v n → (slot_in v n i < n) × InSlot (slot_in v n i) i) →
          (cond b n (slot_in v n i) < suc n) × InSlot (cond b n (slot_in v n i)) i
      go true e more = (omega arith, record { begun = leb-true _ _ e; going = l })
      go false e more = let r = more (leb-false _ _ e) in (omega (arith, r.0), r.1)

  abbrev n : ℕ
  n = v.slots

  -- The ticks of both rounds before a place, and the slot of each tick of a place.
  abbrev pub ticks_to : ℕ → ℕ
  ticks_to x = before n v.ticks x

  pub slot_at_place : (x i : ℕ) → x < n + n → ticks_to x ≤ i → i < ticks_to x + v.ticks (slot n x) → slot_at v i ≡ slot n x
  unfolding slot_at
  slot_at_place x i l a b = go (dec_lt x n)
    where
      go : Dec (x < n) → slot_in v n (i % round_ticks v) ≡ slot n x
      go (yes h) =
          let s = slot_first n x h in
          let t = before_first n v.ticks x h in
          let inside : InSlot x i = record { begun = rw t at a; going = rw (t, s) at b } in
          let whole : i < round_ticks v = omega (arith, inside.going, sum_within v.ticks n x h) in
          rw (mod-eq_of_lt whole, s) (slot_in_lem n x i h inside)
      go (no h) =
          let s = slot_second n x (omega arith) in
          let t = before_second n v.ticks x (omega arith) in
          let a' : round_ticks v + ticks_before v (x - n) ≤ i = rw t at a in
          let b' : i < round_ticks v + ticks_before v (x - n) + v.ticks (x - n) = rw (t, s) at b in
          let inside : InSlot (x - n) (i - round_ticks v) = record { begun = omega arith; going = omega arith } in
          let whole : i - round_ticks v < round_ticks v = omega (arith, inside.going, sum_within v.ticks n (x - n) (omega arith)) in
          rw (mod-eq-sub-mod {n = i} {m = round_ticks v} (omega arith), mod-eq_of_lt whole, s) (slot_in_lem n (x - n) (i - round_ticks v) (omega arith) inside)

  module _ (p : ℕ) where
    abbrev gap : ℕ → ℕ → ℕ
    gap m x = gap_from v p m (slot n x)

    pub gap_own : (m x : ℕ) → x + suc m ≤ n + n → is_booked v p (slot n x) ≡ true → gap (suc m) x ≡ 0
    gap_own m x h e = rw (gap_more v p m x h, e)

    pub gap_other : (m x : ℕ) → x + suc m ≤ n + n → is_booked v p (slot n x) ≡ false → gap (suc m) x ≡ v.ticks (slot n x) + gap m (x + 1)
    gap_other m x h e = rw (gap_more v p m x h, e)

    -- All ticks of a gap are others'.
    pub gap_silent : (m x : ℕ) → x + m ≤ n + n → (i : ℕ) → ticks_to x ≤ i → i < ticks_to x + gap m x → booked v (slot_at v i) ≡ p → ⊥
    unfolding gap_from
    gap_silent zero x h i a b e = omega arith
    gap_silent (suc m) x h i a b e = go (is_booked v p (slot n x)) refl (dec_lt i (ticks_to x + v.ticks (slot n x))) (gap_silent m (x + 1) (omega arith) i)
      where
        go : (c : Bool) → is_booked v p (slot n x) ≡ c → Dec (i < ticks_to x + v.ticks (slot n x)) →
            (ticks_to (x + 1) ≤ i → i < ticks_to (x + 1) + gap m (x + 1) → booked v (slot_at v i) ≡ p → ⊥) → ⊥
        go true q d more = omega (arith, gap_own m x h q, b)
        go false q (yes d) more = eqb-false (booked v (slot n x)) p q (sym (ap (booked v) (slot_at_place x i (omega arith) a d)) ∙ e)
        go false q (no d) more =
            more (omega (arith, before_more n v.ticks x)) (omega (arith, before_more n v.ticks x, gap_other m x h q, b)) e

    -- The tick after a gap is p's, if p has a slot among those that the gap may go through.
    pub gap_ends : ((k : ℕ) → k < n → 0 < v.ticks k) → (m x y : ℕ) → x + m ≤ n + n → x ≤ y → y < x + m →
        is_booked v p (slot n y) ≡ true → booked v (slot_at v (ticks_to x + gap m x)) ≡ p
    gap_ends some zero x y h a b e = absurd (omega arith)
    gap_ends some (suc m) x y h a b e = go (is_booked v p (slot n x)) refl (gap_ends some m (x + 1) y (omega arith))
      where
        go : (c : Bool) → is_booked v p (slot n x) ≡ c →
            (x + 1 ≤ y → y < x + 1 + m → is_booked v p (slot n y) ≡ true → booked v (slot_at v (ticks_to (x + 1) + gap m (x + 1))) ≡ p) →
            booked v (slot_at v (ticks_to x + gap (suc m) x)) ≡ p
        go true q more =
            let tick = some (slot n x) (slot_below n x (omega arith)) in
            ap (booked v) (slot_at_place x _ (omega arith) (omega arith) (omega (arith, gap_own m x h q, tick))) ∙ eqb-true _ _ q
        go false q more =
            let same : ticks_to x + gap (suc m) x ≡ ticks_to (x + 1) + gap m (x + 1) = omega (arith, before_more n v.ticks x, gap_other m x h q) in
            ap (λ i. booked v (slot_at v i)) same ∙ more (later (dec_lt x y)) (omega arith) e
          where
            later : Dec (x < y) → x + 1 ≤ y
            later (yes l) = omega arith
            later (no l) = let z : y ≡ x = omega arith in absurd (true≢false (sym e ∙ ap (λ y. is_booked v p (slot n y)) z ∙ q))
