-- A list with one entry more: the entry stands at its place, the others stand as before, and what is unused stays 0.
use Prim.Native.Nat.{ℕ, ◌+◌, ◌<◌}
use mathlib.Core.Path.{◌≡◌, ◌∙◌}
use mathlib.Core.Bool.{true}
use mathlib.Core.List.{List}
use native.Mathlib.Omega.{arith}
use lib.ListN.{length, get_or, drop, set, length-set}
use lib.Seq.{get_or-set_same, get_or-set_other, drop-set-lt}
use Rattle.policy.specs.Sound.{all_zero}
use Rattle.policy.proofs.Laws.Zeros.{zero_more}

module _ (l : List ℕ) (i x : ℕ) where
  pub stored_long : (n : ℕ) → length l ≡ n → length (set l i x) ≡ n
  stored_long n h = length-set l i x ∙ h

  pub stored_at : (n : ℕ) → length l ≡ n → i < n → get_or (set l i x) i 0 ≡ x
  stored_at n h s = get_or-set_same l i x 0 (omega arith)

  pub stored_below : (j : ℕ) → j < i → get_or (set l i x) j 0 ≡ get_or l j 0
  stored_below j s = get_or-set_other l i j x 0 (λ e. omega arith)

  pub stored_rest : (n : ℕ) → i ≡ n → all_zero (drop n l) ≡ true → all_zero (drop (i + 1) (set l i x)) ≡ true
  stored_rest n e h = rw (drop-set-lt (i + 1) l i x (omega arith)) (zero_more l i (rw e h))
