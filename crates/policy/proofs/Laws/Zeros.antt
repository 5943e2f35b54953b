-- Entries that are 0: what stands after the first of them is 0 too, and in a list of zeros each is.
use Prim.Native.Nat.{ℕ, zero, suc, ◌+◌}
use mathlib.Core.Path.{◌≡◌, refl}
use mathlib.Core.Bool.{true}
use mathlib.Core.List.{List, [], ◌∷◌}
use lib.ListN.{get_or, drop, replicate}
use lib.Seq.{drop-drop}
use lib.Dec.{eqb}
use lib.Pow.{pow_pos}
use Rattle.bits.specs.Masks.{AllUnder}
use Rattle.policy.specs.Sound.{all_zero}
use Rattle.policy.proofs.Laws.Bools.{and_right}

zero_tail : (l : List ℕ) → all_zero l ≡ true → all_zero (drop 1 l) ≡ true
unfolding all_zero
zero_tail [] h = h
zero_tail (n ∷ ns) h = and_right (eqb n 0) (all_zero ns) h

pub zero_more : (l : List ℕ) (n : ℕ) → all_zero (drop n l) ≡ true → all_zero (drop (n + 1) l) ≡ true
zero_more l n h = rw (← drop-drop 1 n l) (zero_tail (drop n l) h)

pub zero_at : (n k : ℕ) → ◌≡◌ {A = ℕ} (get_or (replicate n 0) k 0) 0
zero_at zero k = refl
zero_at (suc n) zero = refl
zero_at (suc n) (suc k) = zero_at n k

pub zero-under : (n width : ℕ) → AllUnder width (replicate n 0)
zero-under n width i = rw (zero_at n i) (pow_pos width)

pub zero_rest : (n : ℕ) → all_zero (drop 0 (replicate n 0)) ≡ true
unfolding all_zero
zero_rest zero = refl
zero_rest (suc n) = zero_rest n
