-- 01, "The policy text": "Numbers have 1 to 5 digits and no leading zero, except 0 itself." How a number is printed: in decimal.
use Rattle.std.specs.Prelude.{ℕ, zero, suc, ◌+◌, ◌/◌, ◌%◌, cond, List, [], ◌∷◌, ltb}

-- "0" to "9" are hex 30 to 39.
abbrev pub digit : ℕ → ℕ
digit d = 0x30 + d

-- The digits of a number of at most k + 1 digits, before the bytes that follow.
unfoldable pub digits_before : ℕ → ℕ → List ℕ → List ℕ
digits_before zero n later = digit n ∷ later
digits_before (suc k) n later =
    let more = digits_before k (n / 10) (digit (n % 10) ∷ later) in
    cond (ltb n 10) (digit n ∷ later) more

-- Of a number below 100,000.
unfoldable pub digits : ℕ → List ℕ
digits n = digits_before 4 n []
