-- Which bytes write a number in a notation, by the four demands on one; and that digits write a value below the base to
-- the power of their number.
use Prim.Native.Nat.{ℕ, suc, ◌+◌, ◌*◌, ◌/◌, ◌%◌, ◌^◌, ◌<◌, ◌≤◌}
use mathlib.Core.Path.{◌≡◌, sym, ◌∙◌, ap}
use mathlib.Core.Bool.{true, false, ◌&&◌, and-false}
use mathlib.Core.List.{List, [], ◌∷◌}
use native.Mathlib.Nat.{pow-zero, pow-suc, pow-le-pow_right, mul-le-mul_right, mul_right_comm, add-mul, mod-mod, div-add-mod'}
use native.Mathlib.Nat.{add-mul-mod_self_right, mod-eq_of_lt, zero-add, add-zero}
use native.Mathlib.Numerals.{add-one}
use native.Mathlib.Omega.{arith}
use borrow.Author.Tests.{le-leb, lt-leb}
use lib.Dec.{eqb, ltb, leb-suc-suc}
use lib.ListN.{length, get_or}
use Rattle.std.specs.Prelude.{Some, None}
use Rattle.text.proofs.Laws.Bools.{and_left, and_right}
use Rattle.text.specs.Cut.{line_end}
use Rattle.text.specs.Number.{Notation, written, is_number, all_digits, value_from, leading_zero}

-- Digits stand above the line end and are worth less than the base, and a number fits four bytes.
pub record Proper (form : Notation) : Type 0 where
  pub above : (b : ℕ) → form.is_digit b ≡ true → line_end < b
  pub small : (b : ℕ) → form.is_digit b ≡ true → form.worth b < form.base
  pub some : 0 < form.base
  pub fits : form.base ^ form.most ≤ 4294967296

pub zero_is : (l : List ℕ) → 1 ≤ length l → leading_zero l ≡ eqb (get_or l 0 0) 0x30 && ltb 1 (length l)
zero_is [] h = absurd (omega arith)
zero_is (b ∷ l) h = rw leb-suc-suc

module _ (form : Notation) (l : List ℕ) where
  pub written_empty : length l < 1 → written form l ≡ None
  unfolding is_number
  written_empty h = rw (lt-leb 1 (length l) h)

  pub written_long : form.most < length l → written form l ≡ None
  unfolding is_number
  written_long h = rw (lt-leb (length l) form.most h, and-false)

  pub written_led : leading_zero l ≡ true → written form l ≡ None
  unfolding is_number
  written_led e = rw (e, and-false)

  pub written_other : all_digits form l ≡ false → written form l ≡ None
  unfolding is_number
  written_other e = rw (e, and-false)

  pub written_is :
      1 ≤ length l → length l ≤ form.most → all_digits form l ≡ true → leading_zero l ≡ false
      → written form l ≡ Some (value_from form 0 l)
  unfolding is_number
  written_is h k d e = rw (le-leb 1 (length l) h, le-leb (length l) form.most k, d, e)

-- Digits after a value below base ^ i.
module _ (form : Notation) (p : Proper form) where
  value_more : (i v d : ℕ) → d < form.base → v < form.base ^ i → v * form.base + d < form.base ^ (i + 1)
  value_more i v d h k =
      rw (add-one, pow-suc) (omega (arith, mul-le-mul_right {m = v + 1} {n = form.base ^ i} form.base (omega arith)))

  value_below :
      (l : List ℕ) (n i : ℕ) → all_digits form l ≡ true → n < form.base ^ i
      → value_from form n l < form.base ^ (length l + i)
  unfolding all_digits value_from
  value_below [] n i d h = rw zero-add h
  value_below (b ∷ l) n i d h =
      let w = p.small b (and_left (form.is_digit b) (all_digits form l) d) in
      let rest = and_right (form.is_digit b) (all_digits form l) d in
      let q : suc (length l) + i ≡ length l + (i + 1) = omega arith in
      rw q (value_below l (n * form.base + form.worth b) (i + 1) rest (value_more i n (form.worth b) w h))

  -- As many digits as there may be fit four bytes.
  pub value_fits :
      (l : List ℕ) → all_digits form l ≡ true → length l ≤ form.most
      → value_from form 0 l % 4294967296 ≡ value_from form 0 l
  value_fits l d h =
      let below : value_from form 0 l < form.base ^ (length l + 0) = value_below l 0 0 d (rw pow-zero (omega arith)) in
      let most = pow-le-pow_right {n = form.base} p.some {i = length l + 0} {j = form.most} (omega (arith, add-zero (length l))) in
      mod-eq_of_lt (omega (arith, below, most, p.fits))

-- The value modulo 4,294,967,296 goes by the value before modulo 4,294,967,296.
module _ (form : Notation) where
  step_mod : (n w : ℕ) → (n % 4294967296 * form.base + w) % 4294967296 ≡ (n * form.base + w) % 4294967296
  step_mod n w =
      let q = n / 4294967296 in
      let r = n % 4294967296 in
      let all : q * 4294967296 * form.base + r * form.base ≡ n * form.base =
      sym (add-mul (q * 4294967296) r form.base) ∙ ap (λ (m : ℕ). m * form.base) (div-add-mod' n 4294967296) in
      let turned = mul_right_comm q 4294967296 form.base in
      let whole : r * form.base + w + q * form.base * 4294967296 ≡ n * form.base + w = omega (arith, all, turned) in
      sym (add-mul-mod_self_right (r * form.base + w) (q * form.base) 4294967296)
      ∙ ap (λ (m : ℕ). m % 4294967296) whole

  pub value_mod :
      (l : List ℕ) (n : ℕ) → value_from form (n % 4294967296) l % 4294967296 ≡ value_from form n l % 4294967296
  unfolding value_from
  value_mod [] n = mod-mod n 4294967296
  value_mod (b ∷ l) n =
      sym (value_mod l (n % 4294967296 * form.base + form.worth b))
      ∙ ap (λ (m : ℕ). value_from form m l % 4294967296) (step_mod n (form.worth b))
      ∙ value_mod l (n * form.base + form.worth b)
