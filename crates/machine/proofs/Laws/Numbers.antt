-- Numbers of so many bytes: of one byte they are what 7 and 8 say of it, of four they are those of a register; their bytes are as many.
use Prim.Native.Nat.{ℕ, zero, suc, ◌+◌, ◌%◌}
use native.Mathlib.Omega.{arith}
use native.Mathlib.Numerals.{add-one}
use native.Mathlib.Nat.{add-zero, div-div-eq-div-mul}
use mathlib.Core.Path.{◌≡◌, refl, ap}
use mathlib.Core.List.{List, [], ◌∷◌}
use mathlib.Core.Bool.{cond}
use lib.Dec.{leb, ltb}
use lib.ListN.{length, get_or}
use lib.Seq.{sets}
use Rattle.octets.specs.Numbers.{word, with_word}
use Rattle.machine.specs.declared.Fault.TheVariants.{NoRight, OffsetOver}
use Rattle.machine.specs.Bytes.{little, digits}
use Rattle.machine.specs.Save.{register}
use Rattle.machine.specs.Faults.{faults}
use Rattle.machine.specs.Local.{advanced, resulted}
use Rattle.machine.specs.Tick.{Seat, saves, stores, in_segment, may_load, may_store, loads, stores_bytes}

pub length_digits : (width n : ℕ) → length (digits width n) ≡ width
unfolding digits
length_digits zero n = refl
length_digits (suc width) n = ap suc (length_digits width _)

pub little-one : (bytes : List ℕ) (at : ℕ) → little 1 bytes at ≡ get_or bytes at 0
unfolding little
little-one bytes at = add-zero (get_or bytes at 0)

pub little-word : (bytes : List ℕ) (at : ℕ) → little 4 bytes at ≡ word bytes at
unfolding little word
little-word bytes at =
    let third : at + 1 + 1 ≡ at + 2 = omega arith in
    let fourth : at + 2 + 1 ≡ at + 3 = omega arith in
    rw (third, fourth) (omega arith)

pub inside_one : (offset size : ℕ) → in_segment 1 offset size ≡ ltb offset size
unfolding in_segment
inside_one offset size = ap (λ end. leb end size) (add-one offset)

pub digits-one : (n : ℕ) → digits 1 n ≡ n % 256 ∷ []
unfolding digits
digits-one n = refl

pub digits-word : (bytes : List ℕ) (at n : ℕ) → sets bytes at (digits 4 n) ≡ with_word bytes at n
unfolding digits with_word
digits-word bytes at n =
    let second : at + 1 ≡ suc at = omega arith in
    let third : at + 2 ≡ suc (suc at) = omega arith in
    let fourth : at + 3 ≡ suc (suc (suc at)) = omega arith in
    rw (second, third, fourth, div-div-eq-div-mul n 256 256, div-div-eq-div-mul n 65536 256)

-- A load and a store of one byte are what 01 says of 7 and 8.
module _ (S : Seat) where
  pub loads_one : (save : List ℕ) (look : ℕ → List ℕ) (a b c : ℕ) → loads S 1 save look a b c
      ≡ cond (may_load S c)
      (cond (ltb (register save b) (S.size c)) (resulted save a (get_or (look c) (register save b) 0)) (faults save OffsetOver))
      (faults save NoRight)
  unfolding loads
  loads_one save look a b c = rw (inside_one, little-one)

  pub stores_one : (save : List ℕ) (a b c : ℕ) → stores_bytes S 1 save a b c
      ≡ cond (may_store S c)
      (cond (ltb (register save b) (S.size c)) (stores (advanced save) c (register save b) (register save a % 256 ∷ [])) (saves (faults save OffsetOver)))
      (saves (faults save NoRight))
  unfolding stores_bytes
  stores_one save a b c = rw (inside_one, digits-one)
