-- The digits that stand at a place, however many, and those of a number there: decimal ones, or hexadecimal ones past 0x.
use Rattle.std.specs.Prelude.{ℕ, ◌+◌, ◌%◌, Bool, ◌&&◌, cond, List, [], ◌∷◌, eqb, length, drop, get_or, Option, Some, None}
use Rattle.text.specs.declared.read.Digits.{Digits}
use Rattle.text.specs.declared.read.NumberDigits.{NumberDigits}
use Rattle.text.specs.Number.{Notation, ten, sixteen, value_from}

-- The digits in front of bytes.
unfoldable pub digits_in : Notation → List ℕ → List ℕ
digits_in form [] = []
digits_in form (b ∷ bs) = let rest = digits_in form bs in cond (form.is_digit b) (b ∷ rest) []

-- The digits at a place.
unfoldable pub digits_read : Notation → List ℕ → ℕ → Digits
digits_read form text from =
    let digits = digits_in form (drop from text) in
    record {
      value = value_from form 0 digits % 4294967296;
      end = from + length digits;
      stop = get_or (drop from text) (length digits) 0;
    }

-- What a byte is worth, if it is a digit.
unfoldable pub digit_worth : Notation → ℕ → Option ℕ
digit_worth form b = cond (form.is_digit b) (Some (form.worth b)) None

-- Digits from a place on, as those of a number; none if another byte than this ends them.
abbrev pub of_number : Notation → ℕ → Digits → NumberDigits
of_number form from d = record { value = d.value; from = from; most = form.most; end = d.end }

abbrev pub as_number : Notation → ℕ → ℕ → Digits → Option NumberDigits
as_number form end from d = cond (eqb d.stop end) (Some (of_number form from d)) None

-- Whether decimal digits are the single 0 in front of x.
abbrev pub marks : ℕ → Digits → Bool
marks from d = eqb d.stop 0x78 && eqb d.end (from + 1) && eqb d.value 0

-- The digits of the number at a place, which this byte ends: past 0x hexadecimal, else decimal.
unfoldable pub number_digits : ℕ → List ℕ → ℕ → Option NumberDigits
number_digits end text from =
    let d = digits_read ten text from in
    cond (marks from d) (as_number sixteen end (from + 2) (digits_read sixteen text (from + 2))) (as_number ten end from d)
