-- Byte strings that the test finds to be the same.
use Prim.Native.Nat.{ℕ}
use mathlib.Core.Path.{◌≡◌, refl, sym}
use mathlib.Core.Bool.{true, true≢false}
use mathlib.Core.List.{List, [], ◌∷◌}
use borrow.Author.Tests.{eqb-true}
use lib.Dec.{eqb}
use Rattle.text.proofs.Laws.Bools.{and_left, and_right}
use Rattle.text.specs.Bytes.{same}

-- Byte strings that are the same are equal.
pub same_equal : (a b : List ℕ) → same a b ≡ true → a ≡ b
unfolding same
same_equal [] [] h = refl
same_equal [] (y ∷ b) h = absurd (true≢false (sym h))
same_equal (x ∷ a) [] h = absurd (true≢false (sym h))
same_equal (x ∷ a) (y ∷ b) h =
    rw (eqb-true x y (and_left (eqb x y) (same a b) h), same_equal a b (and_right (eqb x y) (same a b) h))
