-- The end of a list is all 0 where each number from there on is, and numbers are 0 where their bits together are.
use Prim.Native.Nat.{ℕ, zero, suc, ◌+◌, ◌<◌, ◌≤◌}
use mathlib.Core.Path.{◌≡◌, refl}
use mathlib.Core.Bool.{Bool, true, ◌&&◌, and-true}
use mathlib.Core.List.{List, [], ◌∷◌}
use native.Mathlib.Decide.{ℕ_discrete}
use native.Mathlib.Numerals.{add-one}
use native.Mathlib.Omega.{arith}
use borrow.Author.Tests.{eq-eqb, eqb-true, ne_eqb}
use lib.Bits.{bit_or, and_le_r, or_add_and, or_zero_l}
use lib.Dec.{eqb}
use lib.ListN.{length, get_or, drop, drop_of_length-le}
use lib.Seq.{drop-cons}
use Rattle.policy.specs.Sound.{all_zero}
use Rattle.policy.proofs.Laws.Bools.{and_both, and_left, and_right, same_truth}
use Rattle.policy.proofs.Laws.Tests.{parts}

pub or_none : (x y : ℕ) → eqb (bit_or x y) 0 ≡ eqb x 0 && eqb y 0
or_none x y = go (ℕ_discrete x 0)
  where
    go : Dec (x ≡ 0) → eqb (bit_or x y) 0 ≡ eqb x 0 && eqb y 0
    go (yes q) = rw (q, or_zero_l y)
    go (no q) =
        rw (ne_eqb x 0 q)
        (ne_eqb (bit_or x y) 0 (λ e. q (omega (arith, or_add_and x y, and_le_r x y))))

pub zero_at : (l : List ℕ) (n : ℕ) → all_zero (drop n l) ≡ true → (k : ℕ) → n ≤ k → get_or l k 0 ≡ 0
unfolding all_zero
zero_at [] n h k le = refl
zero_at (x ∷ xs) zero h zero le = eqb-true x 0 (and_left (eqb x 0) (all_zero xs) h)
zero_at (x ∷ xs) zero h (suc k) le = zero_at xs zero (and_right (eqb x 0) (all_zero xs) h) k (omega arith)
zero_at (x ∷ xs) (suc n) h zero le = absurd (omega arith)
zero_at (x ∷ xs) (suc n) h (suc k) le = zero_at xs n h k (omega arith)

pub zero_of : (l : List ℕ) (n : ℕ) → ((k : ℕ) → n ≤ k → k < length l → get_or l k 0 ≡ 0) → all_zero (drop n l) ≡ true
unfolding all_zero
zero_of [] zero h = refl
zero_of [] (suc n) h = refl
zero_of (x ∷ xs) zero h =
    and_both (eqb x 0) (all_zero xs) (eq-eqb x 0 (h 0 (omega arith) (omega arith)))
    (zero_of xs zero (λ k le l. h (suc k) (omega arith) (omega arith)))
zero_of (x ∷ xs) (suc n) h = zero_of xs n (λ k le l. h (suc k) (omega arith) (omega arith))

by_turn : (used w x y z p q r t : Bool) →
    used && (w && p && (x && q) && (y && r) && (z && t)) ≡ used && (w && x && y && z) && (p && q && r && t)
by_turn used w x y z p q r t = same_truth _ _ (λ h. search (parts, and_both) depth 24) (λ h. search (parts, and_both) depth 24)

module _ (a b c d : List ℕ) where
  abbrev zeros : ℕ → Bool
  zeros i = all_zero (drop i a) && all_zero (drop i b) && all_zero (drop i c) && all_zero (drop i d)

  -- Before the loop's turn at i: all is 0 from the start on where what was read is 0 and what is left is.
  abbrev pub ZeroTo : ℕ → ℕ → ℕ → Type 0
  ZeroTo from i used = zeros from ≡ eqb used 0 && zeros i

  module _ (n from i used : ℕ) (z : ZeroTo from i used) (la : length a ≡ n) (lb : length b ≡ n) (lc : length c ≡ n) (ld : length d ≡ n) where
    pub zero_more : i < n →
        ZeroTo from (i + 1) (bit_or used (bit_or (bit_or (bit_or (get_or a i 0) (get_or b i 0)) (get_or c i 0)) (get_or d i 0)))
    unfolding all_zero
    zero_more l =
        rw (
          z,
          drop-cons a i 0 (omega arith),
          drop-cons b i 0 (omega arith),
          drop-cons c i 0 (omega arith),
          drop-cons d i 0 (omega arith),
          or_none,
          or_none,
          or_none,
          or_none,
          add-one,
        )
        (by_turn (eqb used 0) (eqb (get_or a i 0) 0) (eqb (get_or b i 0) 0) (eqb (get_or c i 0) 0) (eqb (get_or d i 0) 0) _ _ _ _)

    pub zero_done : n ≤ i → eqb used 0 ≡ zeros from
    unfolding all_zero
    zero_done l =
        rw (
          z,
          drop_of_length-le a {i = i} (omega arith),
          drop_of_length-le b {i = i} (omega arith),
          drop_of_length-le c {i = i} (omega arith),
          drop_of_length-le d {i = i} (omega arith),
          and-true,
        )
