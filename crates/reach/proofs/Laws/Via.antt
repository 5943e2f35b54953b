-- Chains by their inner segments: two are joined, more inner segments lose none, and what is closed under lines holds each source. By
-- induction on the bound, with no count of steps.
use Prim.Native.Nat.{ℕ, zero, suc, ◌<◌, ◌≤◌}
use mathlib.Core.Path.{◌≡◌}
use mathlib.Core.Bool.{Bool, true, ◌&&◌, or-true}
use native.Mathlib.Omega.{arith}
use native.Mathlib.Decide.{dec_lt}
use Rattle.policy.proofs.Laws.Bools.{and_left, and_right, or_cases}
use Rattle.reach.specs.Via.{via}

module _ (flow : ℕ → ℕ → Bool) where
  pub wider : (k s t : ℕ) → via flow k s t ≡ true → via flow (suc k) s t ≡ true
  unfolding via
  wider k s t h = rw h

  pub through : (k s t : ℕ) → via flow k s k ≡ true → via flow k k t ≡ true → via flow (suc k) s t ≡ true
  unfolding via
  through k s t a b = rw (a, b, or-true)

  -- The ways of a chain with one inner segment more.
  pub split : {A : Type 0} (k s t : ℕ) → via flow (suc k) s t ≡ true → (via flow k s t ≡ true → A) →
      (via flow k s k ≡ true → via flow k k t ≡ true → A) → A
  unfolding via
  split k s t h f g =
      or_cases (via flow k s t) (via flow k s k && via flow k k t) h f
      (λ both. g (and_left (via flow k s k) (via flow k k t) both) (and_right (via flow k s k) (via flow k k t) both))

  -- A chain to u and one from u are one, where u may be inner.
  pub joins : (k s u t : ℕ) → u < k → via flow k s u ≡ true → via flow k u t ≡ true → via flow k s t ≡ true
  joins zero s u t l a b = absurd (omega arith)
  joins (suc k) s u t l a b = go (dec_lt u k) (λ s t m. joins k s u t m)
    where
      -- u is the new inner segment: both halves end at it.
      at_last : u ≡ k → via flow (suc k) s t ≡ true
      at_last q =
          let a' : via flow (suc k) s k ≡ true = rw q at a in
          let b' : via flow (suc k) k t ≡ true = rw q at b in
          let one : via flow k s k ≡ true = split k s k a' (λ h. h) (λ h i. h) in
          let two : via flow k k t ≡ true = split k k t b' (λ h. h) (λ h i. i) in
          through k s t one two

      go : Dec (u < k) →
          ((s t : ℕ) → u < k → via flow k s u ≡ true → via flow k u t ≡ true → via flow k s t ≡ true) →
          via flow (suc k) s t ≡ true
      go (no m) before = at_last (omega arith)
      go (yes m) before =
          split k s u a
          (λ h. split k u t b (λ i. wider k s t (before s t m h i)) (λ i j. through k s t (before s k m h i) j))
          (λ h i. split k u t b (λ j. through k s t h (before k t m i j)) (λ j l. through k s t h l))

  pub later : (n k s t : ℕ) → k ≤ n → via flow k s t ≡ true → via flow n s t ≡ true
  later zero k s t l h = let q : k ≡ 0 = omega arith in rw q at h
  later (suc n) k s t l h = go (dec_lt n k) (later n k s t)
    where
      go : Dec (n < k) → (k ≤ n → via flow k s t ≡ true → via flow n s t ≡ true) → via flow (suc n) s t ≡ true
      go (yes m) before = let q : k ≡ suc n = omega arith in rw q at h
      go (no m) before = wider n s t (before (omega arith) h)

  -- One line in front of a chain.
  pub line_then : (n s u t : ℕ) → u < n → flow s u ≡ true → via flow n u t ≡ true → via flow n s t ≡ true
  unfolding via
  line_then n s u t l a b = joins n s u t l (later n 0 s u (omega arith) a) b

  -- A set that holds what flows into t, and what flows into its own, holds each source of t.
  module _ (n : ℕ) (found : ℕ → Bool)
      (closed : (u s : ℕ) → u < n → found u ≡ true → flow s u ≡ true → found s ≡ true) where
    pub holds : (k s t : ℕ) → k ≤ n → ((s : ℕ) → flow s t ≡ true → found s ≡ true) → via flow k s t ≡ true → found s ≡ true
    unfolding via
    holds zero s t l into h = into s h
    holds (suc k) s t l into h =
        split k s t h (holds k s t (omega arith) into)
        (λ a b. holds k s k (omega arith) (λ u. closed k u l (holds k k t (omega arith) into b)) a)
