-- 02, S-4: what the second form of a number leaves as it was. A field that begins with 0x is no decimal number, since x is
-- no digit: the two forms never compete.
use Prim.Native.Nat.{ℕ}
use mathlib.Core.Path.{◌≡◌, refl, sym, ◌∙◌}
use mathlib.Core.Bool.{Bool, true, false, ◌&&◌, true≢false, and-false}
use mathlib.Core.List.{List, [], ◌∷◌}
use native.Mathlib.Omega.{arith}
use borrow.Author.Tests.{eqb-true, lt-leb}
use lib.Dec.{eqb}
use Rattle.std.specs.Option.{option_or}
use Rattle.std.specs.Prelude.{Option, Some, None}
use Rattle.text.proofs.Laws.Bools.{and_left, and_right}
use Rattle.text.proofs.Laws.Numbers.{written_other}
use Rattle.text.specs.Bytes.{same}
use Rattle.text.specs.Number.{ten, all_digits, zero_to_nine, decimal, begins_hex, hexadecimal, number}

-- Decimal digits do not begin with 0x.
pub digits_unmarked : (f : List ℕ) → all_digits ten f ≡ true → begins_hex f ≡ false
unfolding all_digits begins_hex same
digits_unmarked [] d = refl
digits_unmarked (a ∷ []) d = and-false (eqb a 0x30)
digits_unmarked (a ∷ b ∷ l) d = go (eqb b 0x78) refl
  where
    go : (t : Bool) → eqb b 0x78 ≡ t → eqb a 0x30 && (t && true) ≡ false
    go true e =
        let digit = and_left (zero_to_nine b) (all_digits ten l) (and_right (zero_to_nine a) (all_digits ten (b ∷ l)) d) in
        absurd (true≢false (sym digit ∙ rw (lt-leb b 0x39 (omega (arith, eqb-true b 0x78 e)), and-false)))
    go false e = and-false (eqb a 0x30)

or_none : (n : Option ℕ) → option_or n None ≡ n
or_none (Some v) = refl
or_none None = refl

module _ (f : List ℕ) where
  -- "decimal texts give what they gave", field by field: the value that it had, or malformed as it was.
  pub decimal_kept : begins_hex f ≡ false → number f ≡ decimal f
  unfolding number hexadecimal
  decimal_kept e = rw e

  pub hex_only : begins_hex f ≡ true → decimal f ≡ None
  unfolding decimal
  hex_only e = go (all_digits ten f) refl
    where
      go : (t : Bool) → all_digits ten f ≡ t → decimal f ≡ None
      go true d = absurd (true≢false (sym e ∙ digits_unmarked f d))
      go false d = written_other ten f d

  -- What is no decimal number is what it is in hexadecimal.
  pub number_hex : decimal f ≡ None → number f ≡ hexadecimal f
  unfolding number
  number_hex e = rw e (or_none (hexadecimal f))

  -- Which form is tried first does not matter.
  pub either_first : option_or (decimal f) (hexadecimal f) ≡ number f
  unfolding hexadecimal
  either_first = go (begins_hex f) refl
    where
      go : (t : Bool) → begins_hex f ≡ t → option_or (decimal f) (hexadecimal f) ≡ number f
      go true e = rw (hex_only e) (sym (number_hex (hex_only e)))
      go false e = rw e (or_none (decimal f)) ∙ sym (decimal_kept e)

  -- A decimal number keeps its value.
  pub value_kept : (n : ℕ) → decimal f ≡ Some n → number f ≡ Some n
  value_kept n e = sym either_first ∙ rw e
