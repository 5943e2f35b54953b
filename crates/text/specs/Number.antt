-- 01, "The policy text": "Numbers have 1 to 5 digits and no leading zero, except 0 itself." 02, S-4: "In all places where
-- a number stands, 0x and one to four digits 0–9 or a–f is now read too, without a leading zero except in 0x0."
use Rattle.std.specs.Prelude.{ℕ, ◌+◌, ◌-◌, ◌*◌, Bool, true, false, ◌&&◌, ◌||◌, not, cond, List, [], ◌∷◌, length, take, drop, eqb, leb, ltb, Option, Some, None}
use Rattle.std.specs.Option.{option_or}
use Rattle.text.specs.Bytes.{bytes_of, same}

-- A way to write numbers: its base, how many digits there may be, which bytes are digits, and what each is worth.
pub record Notation : Type 0 where
  pub base : ℕ
  pub most : ℕ
  pub is_digit : ℕ → Bool
  pub worth : ℕ → ℕ

-- "0" to "9" are hex 30 to 39.
abbrev pub zero_to_nine : ℕ → Bool
zero_to_nine b = leb 0x30 b && leb b 0x39

-- "a" to "f" are hex 61 to 66.
abbrev pub a_to_f : ℕ → Bool
a_to_f b = leb 0x61 b && leb b 0x66

-- "1 to 5 digits"
abbrev pub ten : Notation
ten = record { base = 10; most = 5; is_digit = zero_to_nine; worth = λ b. b - 0x30 }

-- "one to four digits 0–9 or a–f": capitals are none.
abbrev pub sixteen : Notation
sixteen =
    record {
      base = 16;
      most = 4;
      is_digit = λ b. zero_to_nine b || a_to_f b;
      worth = λ b. cond (zero_to_nine b) (b - 0x30) (10 + (b - 0x61));
    }

unfoldable pub all_digits : Notation → List ℕ → Bool
all_digits form [] = true
all_digits form (b ∷ bs) = form.is_digit b && all_digits form bs

abbrev pub leading_zero : List ℕ → Bool
leading_zero [] = false
leading_zero (b ∷ bs) = eqb b 0x30 && ltb 0 (length bs)

-- "1 to 5 digits and no leading zero, except 0 itself", "one to four digits .. without a leading zero except in 0x0"
unfoldable pub is_number : Notation → List ℕ → Bool
is_number form digits =
    leb 1 (length digits) && leb (length digits) form.most && all_digits form digits && not (leading_zero digits)

-- The number that digits write, after digits that wrote n.
unfoldable pub value_from : Notation → ℕ → List ℕ → ℕ
value_from form n [] = n
value_from form n (b ∷ bs) = value_from form (n * form.base + form.worth b) bs

-- What bytes write in a notation.
abbrev pub written : Notation → List ℕ → Option ℕ
written form digits = cond (is_number form digits) (Some (value_from form 0 digits)) None

-- 01's numbers: all that was read before 02's S-4.
unfoldable pub decimal : List ℕ → Option ℕ
decimal field = written ten field

-- "0x and .."
unfoldable pub begins_hex : List ℕ → Bool
begins_hex field = same (take 2 field) (bytes_of "0x")

-- ".. one to four digits 0–9 or a–f .. without a leading zero except in 0x0. .. Refused: capitals and five digits are 2."
unfoldable pub hexadecimal : List ℕ → Option ℕ
hexadecimal field = cond (begins_hex field) (written sixteen (drop 2 field)) None

-- ".. is now read too"
unfoldable pub number : List ℕ → Option ℕ
number field = option_or (hexadecimal field) (decimal field)

-- "then r, w or rw", with the record's byte for each: "0 none, 1 r, 2 w, 3 rw"
unfoldable pub letters : List ℕ → Option ℕ
letters field =
    cond (same field (bytes_of "r")) (Some 1)
    (cond (same field (bytes_of "w")) (Some 2)
    (cond (same field (bytes_of "rw")) (Some 3) None))
