-- Masks bit by bit: by `/ 2 ^ s % 2`, over any width.
use Prim.Native.Nat.{ℕ, zero, suc, ◌+◌, ◌-◌, ◌*◌, ◌/◌, ◌%◌, ◌^◌, ◌<◌, ◌≤◌, min, max}
use mathlib.Core.Path.{◌≡◌, refl, sym, ◌∙◌, ap}
use mathlib.Core.Bool.{Bool, true, false, cond, ◌&&◌, ◌||◌, not, and-false, or-true, or-false, true≢false}
use native.Mathlib.Nat.{div-one, pow-suc, mod-lt, div-eq_of_lt, lt_of_lt_of_le, lt_of_le_of_lt, zero-mul, one-mul}
use native.Mathlib.Omega.{arith}
use native.Mathlib.Decide.{dec_lt, ℕ_discrete}
use lib.Arith.{digits_mod}
use lib.Bits.{bit_and, bit_or, bit_xor, differ, or_shr, and_shr, xor_shr, or_step, and_step, xor_step, or_lt, or_shifted_r, or_add_and, and_le_l, and_le_r}
use lib.Pow.{pow-lt, pow_mono, pow-add, mod-pow-add, pow_pos, shl-shr, shr-shr}
use lib.Dec.{eqb, ltb}
use borrow.Author.Tests.{eq-eqb, ne_eqb, lt-ltb, le-ltb}
use Rattle.bits.specs.Masks.{has, with_bit, mask_of}

-- What holds of the two digits holds of each.
digit-cases : (P : ℕ → Type 0) → P 0 → P 1 → (d : ℕ) → d < 2 → P d
digit-cases P z o zero l = z
digit-cases P z o (suc zero) l = o
digit-cases P z o (suc (suc d)) l = absurd (omega arith)

max-digit : (x y : ℕ) → x < 2 → y < 2 → eqb (max x y) 1 ≡ eqb x 1 || eqb y 1
max-digit x y hx hy =
    digit-cases (λ x. eqb (max x y) 1 ≡ eqb x 1 || eqb y 1)
    (digit-cases (λ y. eqb (max 0 y) 1 ≡ eqb 0 1 || eqb y 1) refl refl y hy)
    (digit-cases (λ y. eqb (max 1 y) 1 ≡ eqb 1 1 || eqb y 1) refl refl y hy)
    x hx

min-digit : (x y : ℕ) → x < 2 → y < 2 → eqb (min x y) 1 ≡ eqb x 1 && eqb y 1
min-digit x y hx hy =
    digit-cases (λ x. eqb (min x y) 1 ≡ eqb x 1 && eqb y 1)
    (digit-cases (λ y. eqb (min 0 y) 1 ≡ eqb 0 1 && eqb y 1) refl refl y hy)
    (digit-cases (λ y. eqb (min 1 y) 1 ≡ eqb 1 1 && eqb y 1) refl refl y hy)
    x hx

differ_digit : (x y : ℕ) → x < 2 → y < 2 → eqb (differ x y) 1 ≡ cond (eqb x 1) (not (eqb y 1)) (eqb y 1)
differ_digit x y hx hy =
    digit-cases (λ x. eqb (differ x y) 1 ≡ cond (eqb x 1) (not (eqb y 1)) (eqb y 1))
    refl
    (digit-cases (λ y. eqb (differ 1 y) 1 ≡ not (eqb y 1)) refl refl y hy)
    x hx

max-under : (x y : ℕ) → x < 2 → y < 2 → max x y < 2
max-under x y hx hy = omega arith

min-under : (x y : ℕ) → x < 2 → y < 2 → min x y < 2
min-under x y hx hy = omega arith

differ_under : (x y : ℕ) → x < 2 → y < 2 → differ x y < 2
differ_under x y hx hy =
    digit-cases (λ x. differ x y < 2) hy (digit-cases (λ y. differ 1 y < 2) (omega arith) (omega arith) y hy) x hx

or_odd : (a b : ℕ) → bit_or a b % 2 ≡ max (a % 2) (b % 2)
or_odd a b =
    ap (λ (n : ℕ). n % 2) (or_step a b)
    ∙ digits_mod (bit_or (a / 2) (b / 2)) (max-under (a % 2) (b % 2) (mod-lt a (omega arith)) (mod-lt b (omega arith)))

and_odd : (a b : ℕ) → bit_and a b % 2 ≡ min (a % 2) (b % 2)
and_odd a b =
    ap (λ (n : ℕ). n % 2) (and_step a b)
    ∙ digits_mod (bit_and (a / 2) (b / 2)) (min-under (a % 2) (b % 2) (mod-lt a (omega arith)) (mod-lt b (omega arith)))

xor_odd : (a b : ℕ) → bit_xor a b % 2 ≡ differ (a % 2) (b % 2)
xor_odd a b =
    ap (λ (n : ℕ). n % 2) (xor_step a b)
    ∙ digits_mod (bit_xor (a / 2) (b / 2)) (differ_under (a % 2) (b % 2) (mod-lt a (omega arith)) (mod-lt b (omega arith)))

pub has-or : (a b s : ℕ) → has (bit_or a b) s ≡ has a s || has b s
has-or a b s =
    ap (λ (n : ℕ). eqb (n % 2) 1) (or_shr a b s)
    ∙ ap (λ (n : ℕ). eqb n 1) (or_odd (a / 2 ^ s) (b / 2 ^ s))
    ∙ max-digit (a / 2 ^ s % 2) (b / 2 ^ s % 2) (mod-lt (a / 2 ^ s) (omega arith)) (mod-lt (b / 2 ^ s) (omega arith))

pub has-and : (a b s : ℕ) → has (bit_and a b) s ≡ has a s && has b s
has-and a b s =
    ap (λ (n : ℕ). eqb (n % 2) 1) (and_shr a b s)
    ∙ ap (λ (n : ℕ). eqb n 1) (and_odd (a / 2 ^ s) (b / 2 ^ s))
    ∙ min-digit (a / 2 ^ s % 2) (b / 2 ^ s % 2) (mod-lt (a / 2 ^ s) (omega arith)) (mod-lt (b / 2 ^ s) (omega arith))

pub has-xor : (a b s : ℕ) → has (bit_xor a b) s ≡ cond (has a s) (not (has b s)) (has b s)
has-xor a b s =
    ap (λ (n : ℕ). eqb (n % 2) 1) (xor_shr a b s)
    ∙ ap (λ (n : ℕ). eqb n 1) (xor_odd (a / 2 ^ s) (b / 2 ^ s))
    ∙ differ_digit (a / 2 ^ s % 2) (b / 2 ^ s % 2) (mod-lt (a / 2 ^ s) (omega arith)) (mod-lt (b / 2 ^ s) (omega arith))

-- A mask has no bit from its width on.
pub has_past : (n a s : ℕ) → a < 2 ^ n → n ≤ s → has a s ≡ false
has_past n a s ha l = rw (div-eq_of_lt (lt_of_lt_of_le ha (pow_mono l)))

pub has_none : (s : ℕ) → has 0 s ≡ false
has_none s = has_past 0 0 s (omega arith) (omega arith)

even : (n : ℕ) → eqb (n * 2 % 2) 1 ≡ false
even n = ne_eqb (n * 2 % 2) 1 (λ e. omega arith)

pub has_one : (s u : ℕ) → has (2 ^ s) u ≡ eqb u s
has_one s u = go (dec_lt s u) (dec_lt u s)
  where
    go : Dec (s < u) → Dec (u < s) → has (2 ^ s) u ≡ eqb u s
    go (yes l) m = rw (div-eq_of_lt (pow-lt l), ne_eqb u s (λ e. omega arith))
    go (no l) (yes m) =
        let k : ℕ = s - u - 1 in
        let q : s ≡ suc k + u = omega arith in
        rw (q, pow-add 2 (suc k) u, shl-shr (2 ^ suc k) u, pow-suc, ne_eqb u (suc k + u) (λ e. omega arith)) (even (2 ^ k))
    go (no l) (no m) =
        let q : u ≡ s = omega arith in
        let one : 2 ^ s / 2 ^ s ≡ 1 = ap (λ (n : ℕ). n / 2 ^ s) (sym (one-mul (2 ^ s))) ∙ shl-shr 1 s in
        rw (q, eq-eqb s s refl, one)

pub has-with : (m s u : ℕ) → has (with_bit m s) u ≡ has m u || eqb u s
has-with m s u = has-or m (2 ^ s) u ∙ ap (λ (b : Bool). has m u || b) (has_one s u)

pub with-under : (n m s : ℕ) → m < 2 ^ n → s < n → with_bit m s < 2 ^ n
with-under n m s h l = or_lt n m (2 ^ s) h (pow-lt l)

pub half-has : (a s : ℕ) → has a (suc s) ≡ has (a / 2) s
half-has a s = let q : suc s ≡ 1 + s = omega arith in rw q (ap (λ (n : ℕ). eqb (n % 2) 1) (sym (shr-shr a 1 s)))

pub zero_has : (a : ℕ) → eqb (a % 2) 1 ≡ has a 0
zero_has a = ap (λ (n : ℕ). eqb (n % 2) 1) (sym (div-one a))

digit_tells : (x y : ℕ) → x < 2 → y < 2 → eqb x 1 ≡ eqb y 1 → x ≡ y
digit_tells x y hx hy =
    digit-cases (λ x. eqb x 1 ≡ eqb y 1 → x ≡ y)
    (digit-cases (λ y. eqb 0 1 ≡ eqb y 1 → 0 ≡ y) (λ e. refl) (λ e. absurd (true≢false (sym e))) y hy)
    (digit-cases (λ y. eqb 1 1 ≡ eqb y 1 → 1 ≡ y) (λ e. absurd (true≢false e)) (λ e. refl) y hy)
    x hx

-- Masks of one width that agree on every bit are equal.
pub masks_same : (n a b : ℕ) → a < 2 ^ n → b < 2 ^ n → ((s : ℕ) → s < n → has a s ≡ has b s) → a ≡ b
masks_same zero a b ha hb h = omega arith
masks_same (suc n) a b ha hb h =
    let ha' : a < 2 ^ n * 2 = rw pow-suc at ha in
    let hb' : b < 2 ^ n * 2 = rw pow-suc at hb in
    let high : a / 2 ≡ b / 2 =
    masks_same n (a / 2) (b / 2) (omega arith) (omega arith)
    (λ s l. sym (half-has a s) ∙ h (suc s) (omega arith) ∙ half-has b s) in
    let first : a % 2 ≡ b % 2 =
    digit_tells (a % 2) (b % 2) (mod-lt a (omega arith)) (mod-lt b (omega arith))
    (zero_has a ∙ h 0 (omega arith) ∙ sym (zero_has b)) in
    omega (arith, high, first)

-- A bit more makes a mask larger.
pub with_more : (m s : ℕ) → has m s ≡ false → m < with_bit m s
with_more m s e = omega (arith, none, or_add_and m (2 ^ s), pow_pos s)
  where
    at : (u : ℕ) → Dec (u ≡ s) → has (bit_and m (2 ^ s)) u ≡ false
    at u (yes q) = has-and m (2 ^ s) u ∙ rw (q, e)
    at u (no q) = has-and m (2 ^ s) u ∙ rw (has_one s u, ne_eqb u s q, and-false)

    none : bit_and m (2 ^ s) ≡ 0
    none =
        masks_same (suc s) (bit_and m (2 ^ s)) 0
        (lt_of_le_of_lt (and_le_r m (2 ^ s)) (pow-lt {i = s} {j = suc s} (omega arith)))
        (pow_pos (suc s)) (λ u l. at u (ℕ_discrete u s) ∙ sym (has_none u))

pub mask_under : (f : ℕ → Bool) (n : ℕ) → mask_of n f < 2 ^ n
unfolding mask_of
mask_under f zero = omega arith
mask_under f (suc n) = rw pow-suc (go (f n) (mask_under f n))
  where
    go : (b : Bool) → mask_of n f < 2 ^ n → mask_of n f + cond b (2 ^ n) 0 < 2 ^ n * 2
    go true l = omega arith
    go false l = omega arith

mask_more : (f : ℕ → Bool) (n : ℕ) → mask_of (suc n) f ≡ cond (f n) (with_bit (mask_of n f) n) (mask_of n f)
unfolding mask_of
mask_more f n = go (f n)
  where
    go : (b : Bool) → mask_of n f + cond b (2 ^ n) 0 ≡ cond b (with_bit (mask_of n f) n) (mask_of n f)
    go true =
        let e : bit_or (mask_of n f) (1 * 2 ^ n) ≡ 1 * 2 ^ n + mask_of n f = or_shifted_r 1 n (mask_of n f) (mask_under f n) in
        let o : 1 * 2 ^ n ≡ 2 ^ n = one-mul (2 ^ n) in
        let q : bit_or (mask_of n f) (2 ^ n) ≡ 2 ^ n + mask_of n f = rw o at e in
        omega (arith, q)
    go false = omega arith

-- Bit s of the mask of a test is the test of s.
pub has_mask : (f : ℕ → Bool) (n s : ℕ) → has (mask_of n f) s ≡ ltb s n && f s
has_mask f zero s = has_past 0 (mask_of 0 f) s (mask_under f 0) (omega arith) ∙ rw (le-ltb s 0 (omega arith))
has_mask f (suc n) s = ap (λ (m : ℕ). has m s) (mask_more f n) ∙ go (f n) refl (has_mask f n s)
  where
    go : (b : Bool) → f n ≡ b → has (mask_of n f) s ≡ ltb s n && f s →
        has (cond b (with_bit (mask_of n f) n) (mask_of n f)) s ≡ ltb s (suc n) && f s
    go true e h = has-with (mask_of n f) n s ∙ rw h (at (ℕ_discrete s n) (dec_lt s n))
      where
        at : Dec (s ≡ n) → Dec (s < n) → ltb s n && f s || eqb s n ≡ ltb s (suc n) && f s
        at (yes q) d = rw (q, eq-eqb n n refl, lt-ltb n (suc n) (omega arith), e, or-true)
        at (no q) (yes l) = rw (ne_eqb s n q, lt-ltb s n l, lt-ltb s (suc n) (omega arith), or-false)
        at (no q) (no l) = rw (ne_eqb s n q, le-ltb s n (omega arith), le-ltb s (suc n) (omega arith))
    go false e h = h ∙ at (ℕ_discrete s n) (dec_lt s n)
      where
        at : Dec (s ≡ n) → Dec (s < n) → ltb s n && f s ≡ ltb s (suc n) && f s
        at (yes q) d = rw (q, e, and-false (ltb n n), and-false (ltb n (suc n)))
        at (no q) (yes l) = rw (lt-ltb s n l, lt-ltb s (suc n) (omega arith))
        at (no q) (no l) = rw (le-ltb s n (omega arith), le-ltb s (suc n) (omega arith))

-- The bits below s, and one more.
pub low_more : (m s : ℕ) → m % 2 ^ suc s ≡ cond (has m s) (with_bit (m % 2 ^ s) s) (m % 2 ^ s)
low_more m s =
    let q : suc s ≡ 1 + s = omega arith in
    rw (q, mod-pow-add m 1 s)
    (digit-cases (λ d. d * 2 ^ s + m % 2 ^ s ≡ cond (eqb d 1) (with_bit (m % 2 ^ s) s) (m % 2 ^ s)) low high (m / 2 ^ s % 2)
    (mod-lt (m / 2 ^ s) (omega arith)))
  where
    low : 0 * 2 ^ s + m % 2 ^ s ≡ m % 2 ^ s
    low = omega (arith, zero-mul (2 ^ s))

    high : 1 * 2 ^ s + m % 2 ^ s ≡ with_bit (m % 2 ^ s) s
    high =
        let e : bit_or (m % 2 ^ s) (1 * 2 ^ s) ≡ 1 * 2 ^ s + m % 2 ^ s = or_shifted_r 1 s (m % 2 ^ s) (mod-lt m (pow_pos s)) in
        sym (ap (λ (n : ℕ). bit_or (m % 2 ^ s) n) (sym (one-mul (2 ^ s))) ∙ e)

-- One `and` tells whether each bit of one mask is one of another.
pub within_at : (a b : ℕ) → bit_and a b ≡ a → (s : ℕ) → has a s ≡ true → has b s ≡ true
within_at a b e s h = sym (ap (λ (x : Bool). x && has b s) h) ∙ sym (has-and a b s) ∙ ap (λ (m : ℕ). has m s) e ∙ h

pub within_of : (n a b : ℕ) → a < 2 ^ n → ((s : ℕ) → s < n → has a s ≡ true → has b s ≡ true) → bit_and a b ≡ a
within_of n a b l h =
    masks_same n (bit_and a b) a (lt_of_le_of_lt (and_le_l a b) l) l
    (λ s m. has-and a b s ∙ both (has a s) (has b s) (h s m))
  where
    both : (x y : Bool) → (x ≡ true → y ≡ true) → x && y ≡ x
    both true y f = f refl
    both false y f = refl
