-- Sums and the most of the numbers below a bound: one number more at a time, how large they are, and what makes two of them equal or near: by
-- induction on the bound.
use Prim.Native.Nat.{ℕ, zero, suc, ◌+◌, ◌*◌, ◌<◌, ◌≤◌, max}
use mathlib.Core.Path.{◌≡◌, refl, sym}
use mathlib.Core.Bool.{cond}
use native.Mathlib.Nat.{zero-add, add-zero}
use native.Mathlib.Numerals.{add-one}
use native.Mathlib.Omega.{arith}
use native.Mathlib.Decide.{dec_lt, ℕ_discrete}
use lib.Dec.{eqb}
use borrow.Author.Tests.{eq-eqb, ne_eqb}
use Rattle.policy.specs.Below.{sum_below, most_below}
use Rattle.policy.specs.Limits.{most_ticks}

-- A number below n that is worth the most.
pub record Reaching (f : ℕ → ℕ) (n : ℕ) : Type 0 where
  pub number : ℕ
  pub below : number < n
  pub most : f number ≡ most_below n f

module _ (f : ℕ → ℕ) where
  pub sum_more : (i : ℕ) → sum_below (i + 1) f ≡ sum_below i f + f i
  unfolding sum_below
  sum_more i = rw add-one

  pub sum_most : (n : ℕ) → ((i : ℕ) → i < n → f i ≤ most_ticks) → sum_below n f ≤ most_ticks * n
  unfolding sum_below
  sum_most zero h = omega arith
  sum_most (suc n) h = omega (arith, sum_most n (λ i l. h i (omega arith)), h n (omega arith))

  pub sum_next : (i m : ℕ) → m ≡ sum_below i f → m + f i ≡ sum_below (i + 1) f
  sum_next i m e = rw (e, sum_more)

  pub sum_none : (n : ℕ) → ((i : ℕ) → i < n → f i ≡ 0) → sum_below n f ≡ 0
  unfolding sum_below
  sum_none zero h = refl
  sum_none (suc n) h = rw (sum_none n (λ i l. h i (omega arith)), h n (omega arith))

  -- The sum up to a number with it is within the whole.
  pub sum_within : (n i : ℕ) → i < n → sum_below i f + f i ≤ sum_below n f
  unfolding sum_below
  sum_within zero i l = absurd (omega arith)
  sum_within (suc n) i l = go (dec_lt i n) (sum_within n i)
    where
      go : Dec (i < n) → (i < n → sum_below i f + f i ≤ sum_below n f) → sum_below i f + f i ≤ sum_below n f + f n
      go (yes g) more = omega (arith, more g)
      go (no g) more = let q : i ≡ n = omega arith in rw q (omega arith)

  pub most_least : (n i : ℕ) → i < n → f i ≤ most_below n f
  unfolding most_below
  most_least zero i l = absurd (omega arith)
  most_least (suc n) i l = go (dec_lt i n) (most_least n i)
    where
      go : Dec (i < n) → (i < n → f i ≤ most_below n f) → f i ≤ max (most_below n f) (f n)
      go (yes g) more = omega (arith, more g)
      go (no g) more = let q : i ≡ n = omega arith in rw q (omega arith)

  pub most_within : (n b : ℕ) → ((i : ℕ) → i < n → f i ≤ b) → most_below n f ≤ b
  unfolding most_below
  most_within zero b h = omega arith
  most_within (suc n) b h = omega (arith, most_within n b (λ i l. h i (omega arith)), h n (omega arith))

  pub most_at : (n : ℕ) → 0 < n → Reaching f n
  unfolding most_below
  most_at zero l = absurd (omega arith)
  most_at (suc n) l = go (dec_lt (f n) (most_below n f)) (dec_lt 0 n) (most_at n)
    where
      go : Dec (f n < most_below n f) → Dec (0 < n) → (0 < n → Reaching f n) → Reaching f (suc n)
      go (yes a) (yes b) more =
          let r = more b in
          record { number = r.number; below = omega (arith, r.below); most = omega (arith, r.most) }
      go (yes a) (no b) more = let z : n ≡ 0 = omega arith in absurd (omega (arith, rw z at a))
      go (no a) b more = record { number = n; below = omega arith; most = omega arith }

module _ (f g : ℕ → ℕ) where
  pub sum_same : (n : ℕ) → ((i : ℕ) → i < n → f i ≡ g i) → sum_below n f ≡ sum_below n g
  unfolding sum_below
  sum_same zero h = refl
  sum_same (suc n) h = rw (sum_same n (λ i l. h i (omega arith)), h n (omega arith))

  sum-add : (n : ℕ) → sum_below n (λ i. f i + g i) ≡ sum_below n f + sum_below n g
  unfolding sum_below
  sum-add zero = refl
  sum-add (suc n) = rw (sum-add n) (omega arith)

  pub most_near : (n d : ℕ) → ((i : ℕ) → i < n → f i ≤ g i + d) → most_below n f ≤ most_below n g + d
  most_near n d h = most_within f n (most_below n g + d) (λ i l. omega (arith, h i l, most_least g n i l))

-- A sum over pairs does not depend on which of the two is gone through first.
pub sum_exchange : (f : ℕ → ℕ → ℕ) (n m : ℕ) →
    sum_below n (λ p. sum_below m (λ k. f p k)) ≡ sum_below m (λ k. sum_below n (λ p. f p k))
unfolding sum_below
sum_exchange f zero m = sym (sum_none (λ k. 0) m (λ i l. refl))
sum_exchange f (suc n) m = rw (sum_exchange f n m) (sym (sum-add (λ k. sum_below n (λ p. f p k)) (λ k. f n k) m))

-- A sum in which one number alone is worth something.
module _ (q w : ℕ) where
  abbrev worth : ℕ → ℕ
  worth p = cond (eqb q p) w 0

  sum_past : (n : ℕ) → n ≤ q → sum_below n worth ≡ 0
  sum_past n h = sum_none worth n (λ p l. rw (ne_eqb q p (λ e. omega arith)))

  pub sum_one : (n : ℕ) → q < n → sum_below n worth ≡ w
  unfolding sum_below
  sum_one zero l = absurd (omega arith)
  sum_one (suc n) l = go (ℕ_discrete q n) (sum_one n)
    where
      go : Dec (q ≡ n) → (q < n → sum_below n worth ≡ w) → sum_below n worth + cond (eqb q n) w 0 ≡ w
      go (yes e) more = rw (sum_past n (omega arith), eq-eqb q n e, zero-add)
      go (no d) more = rw (more (omega arith), ne_eqb q n d, add-zero)
