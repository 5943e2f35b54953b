-- The numbers below a bound: tests "for some" and "for each", sums, the largest, and lists.
use Rattle.std.specs.Prelude.{ℕ, zero, suc, ◌+◌, max, Bool, true, false, ◌&&◌, ◌||◌, List, [], ◌∷◌, ◌++◌}

unfoldable pub some_below : ℕ → (ℕ → Bool) → Bool
some_below zero test = false
some_below (suc n) test = some_below n test || test n

unfoldable pub each_below : ℕ → (ℕ → Bool) → Bool
each_below zero test = true
each_below (suc n) test = each_below n test && test n

-- The sum of what the numbers below a bound are worth.
unfoldable pub sum_below : ℕ → (ℕ → ℕ) → ℕ
sum_below zero worth = 0
sum_below (suc n) worth = sum_below n worth + worth n

-- The most that a number below a bound is worth.
unfoldable pub most_below : ℕ → (ℕ → ℕ) → ℕ
most_below zero worth = 0
most_below (suc n) worth = max (most_below n worth) (worth n)

-- What the numbers below a bound are given, in order.
unfoldable pub list_below : {A : Type 0} → ℕ → (ℕ → A) → List A
list_below zero given = []
list_below (suc n) given = list_below n given ++ (given n ∷ [])
