-- What was written is read: a number at its place, by induction on its bytes; a register's result and the counter after it; and a part put back.
use Prim.Native.Nat.{ℕ, zero, suc, ◌+◌, ◌*◌, ◌^◌, ◌/◌, ◌%◌, ◌≤◌, ◌<◌}
use native.Mathlib.Omega.{arith}
use native.Mathlib.Numerals.{add-one}
use native.Mathlib.Nat.{pow-suc, mod-eq_of_lt}
use mathlib.Core.Path.{◌≡◌, sym, ◌∙◌, ap}
use mathlib.Core.Logic.{inl}
use mathlib.Core.List.{List, ◌++◌}
use lib.ListN.{length, get_or, set, take, drop, length-set, length-take}
use lib.Seq.{sets, get_or-set_same, get_or-set_other, take-append_seam, drop-append_seam}
use Rattle.octets.specs.Numbers.{word, with_half, with_word}
use Rattle.octets.proofs.Laws.Halves.{half_put, half_behind_word}
use Rattle.machine.specs.Bytes.{part, with_part, little, digits}
use Rattle.machine.specs.Save.{register, counter}
use Rattle.machine.specs.Local.{advanced, resulted}
use Rattle.machine.proofs.Laws.Numbers.{little-word, digits-word}
use Rattle.machine.proofs.Laws.Parts.{get_d_sets_other}

pub little-written : (width n at : ℕ) (s : List ℕ) → at + width ≤ length s → n < 256 ^ width → little width (sets s at (digits width n)) at ≡ n
unfolding little digits
little-written zero n at s fits small = omega arith
little-written (suc w) n at s fits small =
    let size = pow-suc 256 w in
    let long = length-set s at (n % 256) in
    let first : get_or (sets (set s at (n % 256)) (suc at) (digits w (n / 256))) at 0 ≡ n % 256 =
    get_d_sets_other (suc at) at (digits w (n / 256)) (set s at (n % 256)) (inl (omega arith)) ∙ get_or-set_same s at (n % 256) 0 (omega arith) in
    let rest : little w (sets (set s at (n % 256)) (suc at) (digits w (n / 256))) (suc at) ≡ n / 256 =
    little-written w (n / 256) (suc at) (set s at (n % 256)) (omega (arith, long)) (omega (arith, size)) in
    rw (add-one at, first, rest) (omega arith)

pub word-written : (s : List ℕ) (at n : ℕ) → at + 4 ≤ length s → n < 4294967296 → word (with_word s at n) at ≡ n
word-written s at n fits small = rw (← digits-word s at n, ← little-word) (little-written 4 n at s fits small)

-- A number of four bytes and a byte behind it.
word_beside : (s : List ℕ) (at j v : ℕ) → at + 4 ≤ j → word (set s j v) at ≡ word s at
unfolding word
word_beside s at j v h =
    rw (
      get_or-set_other s j at v 0 (λ e. omega arith),
      get_or-set_other s j (at + 1) v 0 (λ e. omega arith),
      get_or-set_other s j (at + 2) v 0 (λ e. omega arith),
      get_or-set_other s j (at + 3) v 0 (λ e. omega arith),
    )

module _ (s : List ℕ) (a n : ℕ) (long : length s ≡ 44) (few : a < 8) where
  -- The counter's bytes lie behind the registers.
  pub register_resulted : n < 4294967296 → register (resulted s a n) a ≡ n
  unfolding resulted advanced with_half
  register_resulted small =
      word_beside _ (4 * a) 33 _ (omega arith) ∙ word_beside _ (4 * a) 32 _ (omega arith) ∙ word-written s (4 * a) n (omega arith) small

  pub counter_resulted : counter s + 4 < 65536 → counter (resulted s a n) ≡ counter s + 4
  unfolding resulted advanced with_word
  counter_resulted small =
      let before : counter (with_word s (4 * a) n) ≡ counter s = half_behind_word s 32 (4 * a) n (omega arith) in
      half_put (with_word s (4 * a) n) 32 (counter (with_word s (4 * a) n) + 4) (simp length-set (omega arith)) ∙ rw before (mod-eq_of_lt small)

pub part_put : (m : List ℕ) (a k : ℕ) (ys : List ℕ) → a + k ≤ length m → length ys ≡ k → part (with_part m a k ys) a k ≡ ys
part_put m a k ys fits long =
    let front : length (take a m) ≡ a = length-take a m ∙ omega arith in
    let rest = ys ++ drop k (drop a m) in
    let seam : drop a (take a m ++ rest) ≡ rest = ap (λ i. drop i (take a m ++ rest)) (sym front) ∙ drop-append_seam (take a m) rest in
    rw seam (ap (λ i. take i rest) (sym long) ∙ take-append_seam ys (drop k (drop a m)))
