-- A list of what numbers are given has each at its place: by induction on the bound.
use Prim.Native.Nat.{ℕ, zero, suc, ◌<◌}
use mathlib.Core.Path.{◌≡◌, refl, sym, ◌∙◌}
use mathlib.Core.List.{List, [], ◌∷◌}
use native.Mathlib.Omega.{arith}
use native.Mathlib.Decide.{dec_lt}
use lib.ListN.{length, get_or, length-append, get_or-append}
use lib.Seq.{get_or_at, ext_get_or}
use Rattle.policy.specs.Below.{list_below}

pub list_same : {A : Type 0} (f g : ℕ → A) (n : ℕ) → ((s : ℕ) → s < n → f s ≡ g s) → list_below n f ≡ list_below n g
unfolding list_below
list_same f g zero h = refl
list_same f g (suc n) h = rw (list_same f g n (λ s l. h s (omega arith)), h n (omega arith))

module _ {A : Type 0} (given : ℕ → A) where
  pub list_long : (n : ℕ) → length (list_below n given) ≡ n
  unfolding list_below
  list_long zero = refl
  list_long (suc n) = rw (length-append, list_long n) (omega arith)

  pub list_at : (n i : ℕ) (d : A) → i < n → get_or (list_below n given) i d ≡ given i
  unfolding list_below
  list_at zero i d l = absurd (omega arith)
  list_at (suc n) i d l = go (dec_lt i n) (list_at n i d)
    where
      go : Dec (i < n) → (i < n → get_or (list_below n given) i d ≡ given i) → get_or (list_below (suc n) given) i d ≡ given i
      go (yes m) before = get_or-append (list_below n given) (given n ∷ []) d i (rw (list_long n) m) ∙ before m
      go (no m) before = let q : i ≡ n = omega arith in rw q (get_or_at (list_below n given) (given n) [] d n (list_long n))

-- A list with each number at its place.
pub list_is : (l : List ℕ) (f : ℕ → ℕ) → ((i : ℕ) → i < length l → get_or l i 0 ≡ f i) → l ≡ list_below (length l) f
list_is l f h =
    ext_get_or 0 l (list_below (length l) f) (sym (list_long f (length l))) (λ i k. h i k ∙ sym (list_at f (length l) i 0 k))
