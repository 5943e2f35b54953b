-- A mask of n bits is the mask of the test that its bits make: masks of one width that agree on every bit are equal.
use Prim.Native.Nat.{ℕ, zero, suc, ◌+◌, ◌^◌, ◌<◌, ◌≤◌}
use mathlib.Core.Path.{◌≡◌, refl, sym, ◌∙◌}
use mathlib.Core.Bool.{Bool, true, false, ◌&&◌}
use native.Mathlib.Nat.{pow-suc, lt_of_lt_of_le}
use native.Mathlib.Omega.{arith}
use native.Mathlib.Decide.{dec_lt}
use lib.Pow.{pow-lt, pow_mono, pow_pos}
use lib.Dec.{eqb, ltb}
use borrow.Author.Tests.{lt-ltb, le-ltb, ne_eqb}
use Rattle.bits.specs.Masks.{has, mask_of}
use Rattle.bits.proofs.Laws.Masks.{has_mask, has_none, has_one, mask_under, masks_same}

pub has_below : (f : ℕ → Bool) (n s : ℕ) → s < n → has (mask_of n f) s ≡ f s
has_below f n s l = has_mask f n s ∙ rw (lt-ltb s n l)

pub mask_is : (n a : ℕ) (f : ℕ → Bool) → a < 2 ^ n → ((s : ℕ) → s < n → has a s ≡ f s) → a ≡ mask_of n f
mask_is n a f l h = masks_same n a (mask_of n f) l (mask_under f n) (λ s m. h s m ∙ sym (has_below f n s m))

pub one_is : (n s : ℕ) → s < n → 2 ^ s ≡ mask_of n (λ u. eqb u s)
one_is n s l = mask_is n (2 ^ s) (λ u. eqb u s) (pow-lt l) (λ u m. has_one s u)

pub none_is : (n s : ℕ) → n ≤ s → 0 ≡ mask_of n (λ u. eqb u s)
none_is n s l = mask_is n 0 (λ u. eqb u s) (pow_pos n) (λ u m. has_none u ∙ sym (ne_eqb u s (λ e. omega arith)))

pub all_is : (n : ℕ) → mask_of n (λ s. true) + 1 ≡ 2 ^ n
unfolding mask_of
all_is zero = refl
all_is (suc n) = rw pow-suc (omega (arith, all_is n))

-- A mask without the bits from n on has n bits.
pub mask_cut : (w n m : ℕ) → n ≤ w → m < 2 ^ w → ((s : ℕ) → n ≤ s → has m s ≡ false) → m < 2 ^ n
mask_cut w n m l h none =
    let is : m ≡ mask_of n (has m) =
    masks_same w m (mask_of n (has m)) h (lt_of_lt_of_le (mask_under (has m) n) (pow_mono l))
    (λ s k. go s (dec_lt s n) ∙ sym (has_mask (has m) n s)) in
    rw is (mask_under (has m) n)
  where
    go : (s : ℕ) → Dec (s < n) → has m s ≡ ltb s n && has m s
    go s (yes l) = rw (lt-ltb s n l)
    go s (no l) = none s (omega arith) ∙ rw (le-ltb s n (omega arith))
