-- Tests of the numbers below a bound, one number more at a time, and at each number: by induction on the bound.
use Prim.Native.Nat.{ℕ, zero, suc, ◌+◌, ◌*◌, ◌<◌}
use mathlib.Core.Path.{◌≡◌, refl, sym}
use mathlib.Core.Bool.{Bool, true, false, ◌&&◌, ◌||◌, and-true, and-false, and_assoc, or-true, true≢false}
use native.Mathlib.Nat.{add-zero, add-suc, mul-zero, mul-suc}
use native.Mathlib.Numerals.{add-one}
use native.Mathlib.Omega.{arith}
use native.Mathlib.Decide.{dec_lt}
use Rattle.policy.specs.Below.{some_below, each_below}
use Rattle.policy.proofs.Laws.Bools.{and_left, and_right, or_left, or_right}

-- A number below n that passes.
pub record Passing (f : ℕ → Bool) (n : ℕ) : Type 0 where
  pub number : ℕ
  pub below : number < n
  pub passes : f number ≡ true

module _ (f : ℕ → Bool) where
  pub some_more : (i : ℕ) → some_below i f ≡ false → f i ≡ false → some_below (i + 1) f ≡ false
  unfolding some_below
  some_more i h e = rw (add-one, h, e)

  -- gathered by or, with no stop at the first
  pub some_next : (i : ℕ) (found more : Bool) → found ≡ some_below i f → more ≡ f i → found || more ≡ some_below (i + 1) f
  unfolding some_below
  some_next i found more h e = rw (add-one, h, e)

  pub each_more : (i : ℕ) → each_below i f ≡ true → f i ≡ true → each_below (i + 1) f ≡ true
  unfolding each_below
  each_more i h e = rw (add-one, h, e)

  pub some_found : (n i : ℕ) → i < n → f i ≡ true → some_below n f ≡ true
  unfolding some_below
  some_found zero i l e = absurd (omega arith)
  some_found (suc n) i l e = go (dec_lt i n) (λ g. some_found n i g e)
    where
      go : Dec (i < n) → (i < n → some_below n f ≡ true) → some_below n f || f n ≡ true
      go (yes g) more = rw (more g)
      go (no g) more = let q : i ≡ n = omega arith in rw (← q, e, or-true)

  pub some_at : (n : ℕ) → some_below n f ≡ true → Passing f n
  unfolding some_below
  some_at zero h = absurd (true≢false (sym h))
  some_at (suc n) h = go (some_below n f) refl (some_at n)
    where
      go : (b : Bool) → some_below n f ≡ b → (some_below n f ≡ true → Passing f n) → Passing f (suc n)
      go true e more =
          let r = more e in
          record { number = r.number; below = omega (arith, r.below); passes = r.passes }
      go false e more = record { number = n; below = omega arith; passes = rw e at h }

  pub each_fails : (n i : ℕ) → i < n → f i ≡ false → each_below n f ≡ false
  unfolding each_below
  each_fails zero i l e = absurd (omega arith)
  each_fails (suc n) i l e = go (dec_lt i n) (λ g. each_fails n i g e)
    where
      go : Dec (i < n) → (i < n → each_below n f ≡ false) → each_below n f && f n ≡ false
      go (yes g) more = rw (more g)
      go (no g) more = let q : i ≡ n = omega arith in rw (← q, e, and-false)

  pub none_at : (n : ℕ) → some_below n f ≡ false → (i : ℕ) → i < n → f i ≡ false
  unfolding some_below
  none_at zero h i l = absurd (omega arith)
  none_at (suc n) h i l = go (dec_lt i n) (none_at n (or_left (some_below n f) (f n) h) i)
    where
      go : Dec (i < n) → (i < n → f i ≡ false) → f i ≡ false
      go (yes g) more = more g
      go (no g) more = let q : i ≡ n = omega arith in rw q (or_right (some_below n f) (f n) h)

  pub each_at : (n : ℕ) → each_below n f ≡ true → (i : ℕ) → i < n → f i ≡ true
  unfolding each_below
  each_at zero h i l = absurd (omega arith)
  each_at (suc n) h i l = go (dec_lt i n) (each_at n (and_left (each_below n f) (f n) h) i)
    where
      go : Dec (i < n) → (i < n → f i ≡ true) → f i ≡ true
      go (yes g) more = more g
      go (no g) more = let q : i ≡ n = omega arith in rw q (and_right (each_below n f) (f n) h)

  pub none_of : (n : ℕ) → ((i : ℕ) → i < n → f i ≡ false) → some_below n f ≡ false
  unfolding some_below
  none_of zero h = refl
  none_of (suc n) h = rw (none_of n (λ i l. h i (omega arith)), h n (omega arith))

  pub each_of : (n : ℕ) → ((i : ℕ) → i < n → f i ≡ true) → each_below n f ≡ true
  unfolding each_below
  each_of zero h = refl
  each_of (suc n) h = rw (each_of n (λ i l. h i (omega arith)), h n (omega arith))

  each_add : (a b : ℕ) → each_below (a + b) f ≡ each_below a f && each_below b (λ c. f (a + c))
  unfolding each_below
  each_add a zero = rw (add-zero, and-true)
  each_add a (suc b) = rw (add-suc, each_add a b, and_assoc)

  -- row by row, each of w numbers
  pub each_row : (w n : ℕ) → each_below (w * n) f ≡ each_below n (λ r. each_below w (λ c. f (w * r + c)))
  unfolding each_below
  each_row w zero = rw mul-zero
  each_row w (suc n) = rw (mul-suc, each_add (w * n) w, each_row w n)

module _ (f g : ℕ → Bool) where
  pub some_same : (n : ℕ) → ((i : ℕ) → i < n → f i ≡ g i) → some_below n f ≡ some_below n g
  unfolding some_below
  some_same zero h = refl
  some_same (suc n) h = rw (some_same n (λ i l. h i (omega arith)), h n (omega arith))

  pub each_same : (n : ℕ) → ((i : ℕ) → i < n → f i ≡ g i) → each_below n f ≡ each_below n g
  unfolding each_below
  each_same zero h = refl
  each_same (suc n) h = rw (each_same n (λ i l. h i (omega arith)), h n (omega arith))

-- Each pair of numbers below two bounds.
module _ (f : ℕ → ℕ → Bool) (n m : ℕ) where
  pub pairs_at : each_below n (λ i. each_below m (f i)) ≡ true → (i j : ℕ) → i < n → j < m → f i j ≡ true
  pairs_at h i j l k = each_at (f i) m (each_at (λ i. each_below m (f i)) n h i l) j k

  pub pairs_of : ((i j : ℕ) → i < n → j < m → f i j ≡ true) → each_below n (λ i. each_below m (f i)) ≡ true
  pairs_of h = each_of (λ i. each_below m (f i)) n (λ i l. each_of (f i) m (λ j k. h i j l k))
