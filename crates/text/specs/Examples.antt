-- Fields that are numbers, and fields at the edges that are none: 01's decimal numbers and 02's hexadecimal ones.
use Prim.Native.String.{String}
use Rattle.std.specs.Prelude.{ℕ, Bool, true, false, ◌&&◌, List, [], ◌∷◌, eqb, Option, Some, None, is_none}
use Rattle.text.specs.Bytes.{bytes_of}
use Rattle.text.specs.Number.{number}

pub data Example : Type 0 where
  -- a field, and the number that it is
  is : String → ℕ → Example
  -- a field that is no number
  none : String → Example

abbrev pub is_value : Option ℕ → ℕ → Bool
is_value (Some v) n = eqb v n
is_value None n = false

unfoldable pub holds : Example → Bool
holds (is field n) = is_value (number (bytes_of field)) n
holds (none field) = is_none (number (bytes_of field))

abbrev pub all_hold : List Example → Bool
all_hold [] = true
all_hold (e ∷ es) = holds e && all_hold es

-- "1 to 5 digits and no leading zero, except 0 itself"
abbrev pub decimals : List Example
decimals =
    is "0" 0
    ∷ is "9" 9
    ∷ is "10" 10
    ∷ is "99999" 99999
    ∷ none ""
    ∷ none "00"
    ∷ none "01"
    ∷ none "100000"
    ∷ none "1a"
    ∷ none "1/"
    ∷ none "1:"
    ∷ []

-- "0x and one to four digits 0–9 or a–f .. without a leading zero except in 0x0"; "capitals and five digits are 2"
abbrev pub hexadecimals : List Example
hexadecimals =
    is "0x0" 0
    ∷ is "0x9" 9
    ∷ is "0xa" 10
    ∷ is "0xf" 15
    ∷ is "0x10" 16
    ∷ is "0x3e8" 1000
    ∷ is "0xffff" 65535
    ∷ none "0x"
    ∷ none "0x00"
    ∷ none "0x01"
    ∷ none "0x0ffff"
    ∷ none "0x10000"
    ∷ none "0xA"
    ∷ none "0xF"
    ∷ none "0X1"
    ∷ none "0x/"
    ∷ none "0x:"
    ∷ none "0x`"
    ∷ none "0xg"
    ∷ none "00x1"
    ∷ none "1x1"
    ∷ none "x1"
    ∷ none "ff"
    ∷ []
