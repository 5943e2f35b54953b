-- 02, S-6: a mask holds "bit s for segment s, worth 2 to the power s". Over any width: a mask of n bits is a number below 2 to
-- the power n.
use Rattle.std.specs.Prelude.{ℕ, zero, suc, ◌+◌, ◌/◌, ◌%◌, ◌^◌, ◌<◌, Bool, cond, List, eqb, get_or}
use Rattle.std.specs.Int.Bits.{bit_or}

-- Whether bit s is set.
abbrev pub has : ℕ → ℕ → Bool
has mask s = eqb (mask / 2 ^ s % 2) 1

-- The mask with bit s set.
abbrev pub with_bit : ℕ → ℕ → ℕ
with_bit mask s = bit_or mask (2 ^ s)

-- The mask of the numbers below n that pass a test.
unfoldable pub mask_of : ℕ → (ℕ → Bool) → ℕ
mask_of zero test = 0
mask_of (suc n) test = mask_of n test + cond (test n) (2 ^ n) 0

-- Each mask of a list has at most n bits.
abbrev pub AllUnder : ℕ → List ℕ → Type 0
AllUnder n masks = (i : ℕ) → get_or masks i 0 < 2 ^ n
