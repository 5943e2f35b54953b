-- A loop that fills an array from the first place on: the place that a turn writes has its value, and those before keep theirs.
use Prim.Native.Nat.{ℕ, ◌+◌, ◌<◌}
use mathlib.Core.Path.{◌≡◌, ◌∙◌}
use mathlib.Core.List.{List}
use native.Mathlib.Omega.{arith}
use borrow.Author.Count.{below_more}
use lib.ListN.{get_or, set, length}
use lib.Seq.{get_or-set_same, get_or-set_other}

pub fill_more : (worth : ℕ → ℕ) (list : List ℕ) (i value : ℕ) → i < length list → ((j : ℕ) → j < i → get_or list j 0 ≡ worth j) → value ≡ worth i →
    (j : ℕ) → j < i + 1 → get_or (set list i value) j 0 ≡ worth j
fill_more worth list i value l before here =
    below_more (λ j. get_or (set list i value) j 0 ≡ worth j) i
    (λ j k. get_or-set_other list i j value 0 (λ q. omega arith) ∙ before j k)
    (get_or-set_same list i value 0 l ∙ here)
