-- An array filled place by place from zeros: its first entries, then zeros.
use Prim.Native.Nat.{ℕ, suc, ◌-◌, ◌≤◌, ◌<◌}
use mathlib.Core.Path.{◌≡◌, refl, sym, ◌∙◌, ap}
use mathlib.Core.Bool.{true}
use mathlib.Core.List.{List, [], ◌∷◌, ◌++◌}
use native.Mathlib.Nat.{sub-zero}
use native.Mathlib.Omega.{arith}
use borrow.Author.Tests.{eqb-true}
use lib.ListN.{length, get_or, take, drop, set, replicate, take-append-drop, length-drop, get_or-append}
use lib.Seq.{set_at, append_snoc, take-suc, length-take-le, get_or-take}
use lib.Dec.{eqb}
use Rattle.policy.specs.Sound.{all_zero}
use Rattle.policy.proofs.Laws.Bools.{and_left, and_right}

unfoldable pub upto : List ℕ → ℕ → List ℕ
upto xs i = take i xs ++ replicate (length xs - i) 0

pub upto_none : (xs : List ℕ) (n : ℕ) → length xs ≡ n → upto xs 0 ≡ replicate n 0
unfolding upto
upto_none xs n e = rw (sub-zero, e)

module _ (xs : List ℕ) (i : ℕ) (l : i < length xs) where
  abbrev later : List ℕ
  later = replicate (length xs - suc i) 0

  next_zero : upto xs i ≡ take i xs ++ 0 ∷ later
  unfolding upto
  next_zero = let q : length xs - i ≡ suc (length xs - suc i) = omega arith in rw q

  next_entry : take i xs ++ get_or xs i 0 ∷ later ≡ upto xs (suc i)
  unfolding upto
  next_entry = sym (append_snoc (take i xs) (get_or xs i 0) later) ∙ ap (◌++ later) (sym (take-suc xs i 0 l))

  -- The next entry is put in.
  pub upto_set : set (upto xs i) i (get_or xs i 0) ≡ upto xs (suc i)
  upto_set =
      ap (λ (ys : List ℕ). set ys i (get_or xs i 0)) next_zero
      ∙ set_at (take i xs) 0 later (get_or xs i 0) i (length-take-le i xs (omega arith))
      ∙ next_entry

pub upto_at : (xs : List ℕ) (n i : ℕ) → n ≤ length xs → i < n → get_or (upto xs n) i 0 ≡ get_or xs i 0
unfolding upto
upto_at xs n i h l =
    let q : length (take n xs) ≡ n = length-take-le n xs h in
    get_or-append (take n xs) (replicate (length xs - n) 0) 0 i (omega arith) ∙ get_or-take n xs i 0 l

zeros-same : (xs : List ℕ) → all_zero xs ≡ true → replicate (length xs) 0 ≡ xs
unfolding all_zero
zeros-same [] h = refl
zeros-same (x ∷ xs) h =
    rw (eqb-true x 0 (and_left (eqb x 0) (all_zero xs) h), zeros-same xs (and_right (eqb x 0) (all_zero xs) h))

-- All entries are in where those left are 0.
pub upto_full : (xs : List ℕ) (n : ℕ) → all_zero (drop n xs) ≡ true → upto xs n ≡ xs
unfolding upto
upto_full xs n h =
    ap (take n xs ++◌) (ap (λ (m : ℕ). replicate m 0) (sym (length-drop n xs)) ∙ zeros-same (drop n xs) h)
    ∙ take-append-drop n xs
