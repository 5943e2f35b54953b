-- Loops over the numbers below a bound: what holds on their ways. `found` and `good` are what the code's test answered.
use Prim.Native.Nat.{ℕ, ◌+◌, ◌<◌, ◌≤◌}
use mathlib.Core.Path.{◌≡◌, refl, sym, ◌∙◌}
use mathlib.Core.Bool.{Bool, true, false, not}
use native.Mathlib.Omega.{arith}
use borrow.Author.Tests.{not-true, not-false}
use Rattle.policy.specs.Below.{some_below, each_below}
use Rattle.policy.proofs.Laws.Below.{some_more, some_found, each_more, each_fails}

-- The loop that stops at the first number which passes. Before its i-th turn: none below i passes.
abbrev pub Searched : ℕ → (ℕ → Bool) → ℕ → Type 0
Searched n f i = (i ≤ n) × (some_below i f ≡ false)

pub search_none : (n : ℕ) (f : ℕ → Bool) → Searched n f 0
unfolding some_below
search_none n f = (omega arith, refl)

-- The loop that stops at the first number which fails. Before its i-th turn: each below i passes.
abbrev pub Tested : ℕ → (ℕ → Bool) → ℕ → Type 0
Tested n f i = (i ≤ n) × (each_below i f ≡ true)

pub test_none : (n : ℕ) (f : ℕ → Bool) → Tested n f 0
unfolding each_below
test_none n f = (omega arith, refl)

module _ (n : ℕ) (f : ℕ → Bool) (i : ℕ) where
  pub search_found : (found : Bool) → i < n → found ≡ f i → found ≡ true → true ≡ some_below n f
  search_found found l e h = sym (some_found f n i l (sym e ∙ h))

  pub search_more : (found : Bool) → Searched n f i → i < n → found ≡ f i → found ≡ false → Searched n f (i + 1)
  search_more found s l e h = (omega arith, some_more f i s.1 (sym e ∙ h))

  pub search_done : Searched n f i → n ≤ i → false ≡ some_below n f
  search_done s l = let e : n ≡ i = omega arith in rw e (sym s.1)

  pub test_found : (good : Bool) → i < n → good ≡ f i → not good ≡ true → false ≡ each_below n f
  test_found good l e h = sym (each_fails f n i l (sym e ∙ not-true good h))

  pub test_more : (good : Bool) → Tested n f i → i < n → good ≡ f i → not good ≡ false → Tested n f (i + 1)
  test_more good t l e h = (omega arith, each_more f i t.1 (sym e ∙ not-false good h))

  pub test_done : Tested n f i → n ≤ i → true ≡ each_below n f
  test_done t l = let e : n ≡ i = omega arith in rw e (sym t.1)
