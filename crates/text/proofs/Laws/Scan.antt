-- The digits from a place on, one more at a time: what a loop over them knows. And what the code's tests of a byte say of
-- it as a digit.
use Prim.Native.Nat.{ℕ, ◌+◌, ◌-◌, ◌*◌, ◌%◌, ◌<◌, ◌≤◌}
use mathlib.Core.Path.{◌≡◌, refl, sym, ◌∙◌, ap}
use mathlib.Core.Bool.{Bool, true, false, ◌&&◌, true≢false, and-false}
use mathlib.Core.List.{List}
use native.Mathlib.Numerals.{add-one}
use native.Mathlib.Nat.{add-zero, suc-add, add-suc, mod-eq_of_lt, mod-add-mod}
use native.Mathlib.Omega.{arith}
use native.Mathlib.Decide.{dec_lt}
use borrow.Author.Tests.{le-leb, lt-leb, eq-eqb, ne_eqb, eqb-true}
use lib.Dec.{eqb}
use lib.ListN.{length, drop, get_or, drop_of_length-le}
use lib.Seq.{drop-cons}
use Rattle.std.specs.Prelude.{cond, Option, Some, None}
use Rattle.text.proofs.Laws.Numbers.{value_mod}
use Rattle.text.proofs.Laws.Stops.{parts}
use Rattle.text.specs.Digits.{digits_in, digits_read, digit_worth, of_number, as_number, marks, number_digits}
use Rattle.text.specs.declared.read.Digits.{Digits}
use Rattle.text.specs.Number.{Notation, ten, sixteen, zero_to_nine, value_from}

module _ (form : Notation) (b : ℕ) where
  worth_none : digit_worth form b ≡ None → form.is_digit b ≡ false
  unfolding digit_worth
  worth_none = go (form.is_digit b)
    where
      go : (t : Bool) → cond t (Some (form.worth b)) None ≡ None → t ≡ false
      go true q = cc
      go false q = refl

  worth_some : {d : ℕ} → digit_worth form b ≡ Some d → (form.is_digit b ≡ true) × (form.worth b ≡ d)
  unfolding digit_worth
  worth_some {d} = go (form.is_digit b)
    where
      go : (t : Bool) → cond t (Some (form.worth b)) None ≡ Some d → (t ≡ true) × (form.worth b ≡ d)
      go true q = (refl, cc)
      go false q = (cc, cc)

module _ (form : Notation) where
  -- The digits from a place on, after some that wrote v.
  unfoldable pub digits_on : ℕ → ℕ → List ℕ → Digits
  digits_on v i l =
      let d = digits_in form l in
      record { value = value_from form v d % 4294967296; end = i + length d; stop = get_or l (length d) 0 }

  pub on_begin : (text : List ℕ) (from : ℕ) → digits_read form text from ≡ digits_on 0 from (drop from text)
  unfolding digits_read digits_on
  on_begin text from = refl

  module _ (text : List ℕ) (v i : ℕ) where
    abbrev byte : ℕ
    byte = get_or text i 0

    pub on_past :
        v < 4294967296 → length text ≤ i
        → digits_on v i (drop i text) ≡ record { value = v; end = i; stop = 0 }
    unfolding digits_on digits_in value_from
    on_past s h = rw (drop_of_length-le text h, mod-eq_of_lt s, add-zero)

    -- By what the byte is worth.
    module _ {said : Option ℕ} (told : said ≡ digit_worth form byte) (h : i < length text) where
      pub on_other :
          v < 4294967296 → said ≡ None → digits_on v i (drop i text) ≡ record { value = v; end = i; stop = byte }
      unfolding digits_on digits_in value_from
      on_other s k = rw (drop-cons text i 0 h, worth_none form byte (sym told ∙ k), mod-eq_of_lt s, add-zero)

      pub on_more :
          {d base : ℕ} → said ≡ Some d → form.base ≡ base
          → digits_on v i (drop i text) ≡ digits_on ((v * base % 4294967296 + d) % 4294967296) (i + 1) (drop (i + 1) text)
      unfolding digits_on digits_in value_from
      on_more k b =
          let known = worth_some form byte (sym told ∙ k) in
          rw (← b, ← known.1, drop-cons text i 0 h, add-one i, known.0, mod-add-mod, value_mod, suc-add, add-suc)

-- A byte is a decimal digit just if the difference from "0", which wraps around, is below 10.
module _ (b : ℕ) (small : b < 256) where
  abbrev d : ℕ
  d = (b + 4294967248) % 4294967296

  pub ten_worth : d < 10 → Some d ≡ digit_worth ten b
  unfolding digit_worth
  ten_worth h =
      let e : d ≡ b - 0x30 = omega arith in rw (le-leb 0x30 b (omega arith), le-leb b 0x39 (omega arith), e)

  pub ten_other : 10 ≤ d → None ≡ digit_worth ten b
  unfolding digit_worth
  ten_other h = go (dec_lt b 0x30)
    where
      go : Dec (b < 0x30) → None ≡ cond (zero_to_nine b) (Some (b - 0x30)) None
      go (yes e) = rw (lt-leb 0x30 b e)
      go (no e) = rw (lt-leb b 0x39 (omega arith), and-false)

-- The digits of the number at a place, by the decimal ones there.
module _ (end : ℕ) (text : List ℕ) (from : ℕ) {d : Digits} (e : d ≡ digits_read ten text from) where
  decimal-digits : marks from d ≡ false → number_digits end text from ≡ as_number ten end from d
  unfolding number_digits
  decimal-digits m = rw (← e, m)

  -- A byte that ends a field is no x.
  pub ended_digits :
      parts end ≡ true → d.stop ≡ end
      → Some (of_number ten from d) ≡ number_digits end text from
  ended_digits p f = sym (decimal-digits (go (eqb d.stop 0x78) refl) ∙ rw (eq-eqb d.stop end f))
    where
      go : (t : Bool) → eqb d.stop 0x78 ≡ t → t && eqb d.end (from + 1) && eqb d.value 0 ≡ false
      go true z = absurd (true≢false (sym p ∙ ap parts (sym f ∙ eqb-true d.stop 0x78 z)))
      go false z = refl

  pub open_digits : (d.stop ≡ end → ⊥) → marks from d ≡ false → None ≡ number_digits end text from
  open_digits f m = sym (decimal-digits m ∙ rw (ne_eqb d.stop end f))

  module _ (m : marks from d ≡ true) {h : Digits} (r : h ≡ digits_read sixteen text (from + 2)) where
    hex-digits : number_digits end text from ≡ as_number sixteen end (from + 2) h
    unfolding number_digits
    hex-digits = rw (← e, m, ← r)

    pub hex_digits :
        h.stop ≡ end
        → Some (of_number sixteen (from + 2) h) ≡ number_digits end text from
    hex_digits f = sym (hex-digits ∙ rw (eq-eqb h.stop end f))

    pub hex_open : (h.stop ≡ end → ⊥) → None ≡ number_digits end text from
    hex_open f = sym (hex-digits ∙ rw (ne_eqb h.stop end f))
