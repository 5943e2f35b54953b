-- A number of two bytes that was put is read, modulo 65,536; a store of another byte leaves it.
use Prim.Native.Nat.{ℕ, ◌+◌, ◌%◌, ◌/◌, ◌≤◌, ◌<◌}
use native.Mathlib.Omega.{arith}
use mathlib.Core.Path.{◌≡◌, ◌∙◌}
use mathlib.Core.Logic.{◌⊎◌, inl, ⊎_elim}
use mathlib.Core.List.{List}
use lib.ListN.{length, get_or, set, length-set}
use lib.Seq.{get_or-set_same, get_or-set_other}
use Rattle.octets.specs.Numbers.{half, with_half, with_word}

pub half_put : (s : List ℕ) (at n : ℕ) → at + 2 ≤ length s → half (with_half s at n) at ≡ n % 65536
unfolding half with_half
half_put s at n fits =
    let long = length-set s at (n % 256) in
    let first : get_or (set (set s at (n % 256)) (at + 1) (n / 256 % 256)) at 0 ≡ n % 256 =
    get_or-set_other (set s at (n % 256)) (at + 1) at _ 0 (λ e. omega arith) ∙ get_or-set_same s at (n % 256) 0 (omega arith) in
    let second : get_or (set (set s at (n % 256)) (at + 1) (n / 256 % 256)) (at + 1) 0 ≡ n / 256 % 256 = get_or-set_same (set s at (n % 256)) (at + 1) _ 0 (omega (arith, long)) in
    rw (first, second) (omega arith)

pub half_beside : (s : List ℕ) (at j v : ℕ) → (j < at) ⊎ (at + 2 ≤ j) → half (set s j v) at ≡ half s at
unfolding half
half_beside s at j v h =
    let first = get_or-set_other s j at v 0 (λ e. ⊎_elim (λ i. omega arith) (λ i. omega arith) h) in
    let second = get_or-set_other s j (at + 1) v 0 (λ e. ⊎_elim (λ i. omega arith) (λ i. omega arith) h) in
    rw (first, second)

pub half_behind_word : (s : List ℕ) (at j n : ℕ) → j + 4 ≤ at → half (with_word s j n) at ≡ half s at
unfolding with_word
half_behind_word s at j n h =
    half_beside _ at (j + 3) _ (inl (omega arith)) ∙ half_beside _ at (j + 2) _ (inl (omega arith)) ∙ half_beside _ at (j + 1) _ (inl (omega arith)) ∙ half_beside _ at j _ (inl (omega arith))
