-- A number's digits write that number, and nothing but it: by induction on the digits left, dividing by ten.
use Prim.Native.Nat.{ℕ, zero, suc, ◌+◌, ◌/◌, ◌%◌, ◌^◌, ◌<◌, ◌≤◌}
use mathlib.Core.Path.{◌≡◌, refl, ◌∙◌, ap}
use mathlib.Core.Bool.{true, false, cond}
use mathlib.Core.List.{List, [], ◌∷◌}
use native.Mathlib.Nat.{div-add-mod', mod-lt, div-lt_iff_lt-mul, pow-suc, le_trans}
use native.Mathlib.Omega.{arith}
use native.Mathlib.Decide.{dec_lt}
use borrow.Author.Tests.{lt-ltb, le-ltb, le-leb, ne_eqb}
use lib.ListN.{length}
use lib.Dec.{ltb}
use Rattle.std.specs.Prelude.{Some}
use Rattle.text.specs.Number.{ten, zero_to_nine, all_digits, leading_zero, value_from, decimal, begins_hex, number}
use Rattle.text.proofs.Forms.{digits_unmarked as unmarked, decimal_kept}
use Rattle.text.proofs.Laws.Numbers.{written_is}
use Rattle.printer.specs.Decimal.{digit, digits, digits_before}

-- One digit, or one more: what a fact about the digits of n asks for.
digits-cases : (P : List ℕ → Type 0) (k n : ℕ) (later : List ℕ) →
    (n < 10 → P (digit n ∷ later)) → (10 ≤ n → P (digits_before k (n / 10) (digit (n % 10) ∷ later))) →
    P (digits_before (suc k) n later)
unfolding digits_before
digits-cases P k n later one more = go (dec_lt n 10)
  where
    go : Dec (n < 10) → P (cond (ltb n 10) (digit n ∷ later) (digits_before k (n / 10) (digit (n % 10) ∷ later)))
    go (yes l) = rw (lt-ltb n 10 l) (one l)
    go (no g) = let l : 10 ≤ n = omega arith in rw (le-ltb n 10 l) (more l)

value_before : (k n : ℕ) (later : List ℕ) → value_from ten 0 (digits_before k n later) ≡ value_from ten n later
unfolding value_from digits_before
value_before zero n later = ap (λ (m : ℕ). value_from ten m later) (omega arith)
value_before (suc k) n later =
    digits-cases (λ l. value_from ten 0 l ≡ value_from ten n later) k n later
    (λ l. ap (λ (m : ℕ). value_from ten m later) (omega arith))
    (λ l. value_before k (n / 10) (digit (n % 10) ∷ later)
    ∙ ap (λ (m : ℕ). value_from ten m later) (omega (arith, div-add-mod' n 10)))

shorter : (k n : ℕ) → n < 10 ^ suc (suc k) → n / 10 < 10 ^ suc k
shorter k n h = (div-lt_iff_lt-mul {k = 10} {x = n} {y = 10 ^ suc k} (omega arith)).1 (rw pow-suc at h)

is_digit_lem : (d : ℕ) → d < 10 → zero_to_nine (digit d) ≡ true
is_digit_lem d l = rw (le-leb 0x30 (0x30 + d) (omega arith), le-leb (0x30 + d) 0x39 (omega arith))

digits_all : (k n : ℕ) (later : List ℕ) → n < 10 ^ suc k → all_digits ten later ≡ true →
    all_digits ten (digits_before k n later) ≡ true
unfolding all_digits digits_before
digits_all zero n later h e = rw (is_digit_lem n h, e)
digits_all (suc k) n later h e =
    digits-cases (λ l. all_digits ten l ≡ true) k n later
    (λ l. rw (is_digit_lem n l, e))
    (λ l. digits_all k (n / 10) (digit (n % 10) ∷ later) (shorter k n h)
    (rw (is_digit_lem (n % 10) (mod-lt n (omega arith)), e)))

digits_lead : (k n : ℕ) (later : List ℕ) → 0 < n → leading_zero (digits_before k n later) ≡ false
unfolding digits_before
digits_lead zero n later p = rw (ne_eqb (0x30 + n) 0x30 (omega arith))
digits_lead (suc k) n later p =
    digits-cases (λ l. leading_zero l ≡ false) k n later
    (λ l. rw (ne_eqb (0x30 + n) 0x30 (omega arith)))
    (λ l. digits_lead k (n / 10) (digit (n % 10) ∷ later) (omega (arith, div-add-mod' n 10, mod-lt n {m = 10} (omega arith))))

-- At most as many digits as there is room for.
width_before : (k n : ℕ) (later : List ℕ) → length (digits_before k n later) ≤ suc k + length later
unfolding digits_before
width_before zero n later = omega arith
width_before (suc k) n later =
    digits-cases (λ l. length l ≤ suc (suc k) + length later) k n later (λ l. omega arith)
    (λ l. le_trans (width_before k (n / 10) (digit (n % 10) ∷ later)) (omega arith))

some_before : (k n : ℕ) (later : List ℕ) → suc (length later) ≤ length (digits_before k n later)
unfolding digits_before
some_before zero n later = omega arith
some_before (suc k) n later =
    digits-cases (λ l. suc (length later) ≤ length l) k n later (λ l. omega arith)
    (λ l. le_trans (omega arith) (some_before k (n / 10) (digit (n % 10) ∷ later)))

-- A number is no shorter than a lesser one.
grows_before : (k a b : ℕ) (later more : List ℕ) → length later ≡ length more → a ≤ b →
    length (digits_before k a later) ≤ length (digits_before k b more)
unfolding digits_before
grows_before zero a b later more e l = omega arith
grows_before (suc k) a b later more e l =
    digits-cases (λ x. length x ≤ length (digits_before (suc k) b more)) k a later
    (λ s. omega (arith, some_before (suc k) b more))
    (λ s. digits-cases (λ x. length (digits_before k (a / 10) (digit (a % 10) ∷ later)) ≤ length x) k b more
    (λ m. absurd (omega arith))
    (λ m. grows_before k (a / 10) (b / 10) (digit (a % 10) ∷ later) (digit (b % 10) ∷ more) (omega arith) (omega arith)))

pub digits_grow : (a b : ℕ) → a ≤ b → length (digits a) ≤ length (digits b)
unfolding digits
digits_grow a b l = grows_before _ a b [] [] refl l

zero_alone : leading_zero (digits 0) ≡ false
unfolding digits digits_before
zero_alone = refl

no_zero_leads : (n : ℕ) → leading_zero (digits n) ≡ false
unfolding digits
no_zero_leads zero = zero_alone
no_zero_leads (suc n) = digits_lead _ (suc n) [] (omega arith)

pub all_digits_lem : (n : ℕ) → n < 100000 → all_digits ten (digits n) ≡ true
unfolding digits all_digits
all_digits_lem n h = digits_all _ n [] h refl

-- Digits do not begin with 0x, and are a decimal number.
digits_unmarked : (n : ℕ) → n < 100000 → begins_hex (digits n) ≡ false
digits_unmarked n h = unmarked (digits n) (all_digits_lem n h)

digits_decimal : (n : ℕ) → n < 100000 → decimal (digits n) ≡ Some n
unfolding decimal digits value_from
digits_decimal n h =
    written_is ten (digits n) (some_before _ n []) (width_before _ n []) (all_digits_lem n h) (no_zero_leads n)
    ∙ ap Some (value_before _ n [])

pub digits_number : (n : ℕ) → n < 100000 → number (digits n) ≡ Some n
digits_number n h = decimal_kept (digits n) (digits_unmarked n h) ∙ digits_decimal n h
