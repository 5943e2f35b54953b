-- The digits of a number are those of its tenth part and then its last: by induction on how many may stand before the last.
use Prim.Native.Nat.{ℕ, zero, suc, ◌+◌, ◌^◌, ◌/◌, ◌%◌, ◌<◌, ◌≤◌}
use mathlib.Core.Path.{◌≡◌, refl, ◌∙◌}
use mathlib.Core.Bool.{Bool, true, false, cond}
use mathlib.Core.List.{List, [], ◌∷◌, ◌++◌, append_assoc}
use native.Mathlib.Nat.{pow-suc, div-lt_iff_lt-mul}
use native.Mathlib.Decide.{dec_lt}
use native.Mathlib.Omega.{arith}
use borrow.Author.Tests.{lt-ltb, le-ltb}
use lib.Dec.{ltb}
use lib.ListN.{length, length-append}
use Rattle.printer.specs.Decimal.{digit, digits_before, digits}

tenth : (k n : ℕ) → n < 10 ^ suc k → n / 10 < 10 ^ k
tenth k n h = (div-lt_iff_lt-mul {k = 10} {x = n} {y = 10 ^ k} (omega arith)).1 (rw pow-suc at h)

before_append : (k n : ℕ) (later : List ℕ) → digits_before k n later ≡ digits_before k n [] ++ later
unfolding digits_before
before_append zero n later = refl
before_append (suc k) n later = go (ltb n 10) (before_append k (n / 10))
  where
    go : (b : Bool) →
        ((l : List ℕ) → digits_before k (n / 10) l ≡ digits_before k (n / 10) [] ++ l) →
        cond b (digit n ∷ later) (digits_before k (n / 10) (digit (n % 10) ∷ later))
        ≡ cond b (digit n ∷ []) (digits_before k (n / 10) (digit (n % 10) ∷ [])) ++ later
    go true more = refl
    go false more = more (digit (n % 10) ∷ later) ∙ rw (more (digit (n % 10) ∷ []), append_assoc)

-- Room for more digits than there are changes nothing.
before_enough : (k n : ℕ) (later : List ℕ) → n < 10 ^ suc k → digits_before (suc k) n later ≡ digits_before k n later
unfolding digits_before
before_enough zero n later h = rw (lt-ltb n 10 h)
before_enough (suc k) n later h = rw (before_enough k (n / 10) (digit (n % 10) ∷ later) (tenth (suc k) n h))

pub digits-one : (n : ℕ) → n < 10 → digits n ≡ digit n ∷ []
unfolding digits digits_before
digits-one n h = rw (lt-ltb n 10 h)

before_step : (k n : ℕ) (later : List ℕ) → 10 ≤ n → digits_before (suc k) n later ≡ digits_before k (n / 10) (digit (n % 10) ∷ later)
unfolding digits_before
before_step k n later l = rw (le-ltb n 10 l)

pub digits_more : (n : ℕ) → 10 ≤ n → n < 100000 → digits n ≡ digits (n / 10) ++ (digit (n % 10) ∷ [])
unfolding digits
digits_more n l h =
    before_step 3 n [] l
    ∙ before_append 3 (n / 10) (digit (n % 10) ∷ [])
    ∙ rw (before_enough 3 (n / 10) [] (omega arith))

pub digits_longer : (n : ℕ) → 10 ≤ n → n < 100000 → length (digits n) ≡ length (digits (n / 10)) + 1
digits_longer n l h = rw (digits_more n l h, length-append)

before_width : (j k n : ℕ) (later : List ℕ) → n < 10 ^ suc k → length (digits_before j n later) ≤ suc k + length later
unfolding digits_before
before_width zero k n later h = omega arith
before_width (suc j) k n later h = go (dec_lt n 10) k h (before_width j)
  where
    go : Dec (n < 10) →
        (k : ℕ) →
        n < 10 ^ suc k →
        ((k n : ℕ) (later : List ℕ) → n < 10 ^ suc k → length (digits_before j n later) ≤ suc k + length later) →
        length (cond (ltb n 10) (digit n ∷ later) (digits_before j (n / 10) (digit (n % 10) ∷ later))) ≤ suc k + length later
    go (yes g) k h more = rw (lt-ltb n 10 g) (omega arith)
    go (no g) zero h more = absurd (omega arith)
    go (no g) (suc k) h more =
        rw (le-ltb n 10 (omega arith))
        (omega (arith, more k (n / 10) (digit (n % 10) ∷ later) (tenth (suc k) n h)))

-- A number below 10 to the power k has at most k digits.
pub digits_width : (k n : ℕ) → n < 10 ^ suc k → length (digits n) ≤ suc k
unfolding digits
digits_width k n h = omega (arith, before_width 4 k n [] h)
