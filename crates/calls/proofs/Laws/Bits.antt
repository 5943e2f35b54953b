-- Or, bit by bit, goes in any grouping and order: by induction on the halves of a number, whose digits are maxima.
use Prim.Native.Nat.{ℕ, ◌+◌, ◌*◌, ◌/◌, ◌%◌, max}
use native.Mathlib.Omega.{arith}
use mathlib.Core.Path.{◌≡◌, refl, sym, ◌∙◌, ap, ap₂}
use lib.Bits.{bit_or, or_step, or_comm, or_self}
use lib.Arith.{bin_ind, digits_div, digits_mod}

or-half : (a b : ℕ) → bit_or a b / 2 ≡ bit_or (a / 2) (b / 2)
or-half a b = rw (or_step a b) (digits_div (bit_or (a / 2) (b / 2)) (omega arith))

or_odd : (a b : ℕ) → bit_or a b % 2 ≡ max (a % 2) (b % 2)
or_odd a b = rw (or_step a b) (digits_mod (bit_or (a / 2) (b / 2)) (omega arith))

pub or_assoc : (a b c : ℕ) → bit_or (bit_or a b) c ≡ bit_or a (bit_or b c)
or_assoc =
    bin_ind (λ (n : ℕ). (b c : ℕ) → bit_or (bit_or n b) c ≡ bit_or n (bit_or b c)) (λ b c. refl)
    (λ n ih b c. or_step (bit_or n b) c
    ∙ ap₂ (λ (x y : ℕ). x * 2 + y)
    (ap (λ (x : ℕ). bit_or x (c / 2)) (or-half n b) ∙ ih (b / 2) (c / 2) ∙ ap (λ (x : ℕ). bit_or (n / 2) x) (sym (or-half b c)))
    (omega (arith, or_odd n b, or_odd b c))
    ∙ sym (or_step n (bit_or b c)))

pub or_again : (a b : ℕ) → bit_or (bit_or a b) b ≡ bit_or a b
or_again a b = or_assoc a b b ∙ ap (λ (x : ℕ). bit_or a x) (or_self b)

pub or_swap : (a b c : ℕ) → bit_or (bit_or a b) c ≡ bit_or (bit_or a c) b
or_swap a b c = or_assoc a b c ∙ ap (λ (x : ℕ). bit_or a x) (or_comm b c) ∙ sym (or_assoc a c b)
