-- The lowest set digit of a number of k digits stands below k, is set, and is worth no more than the number: by induction on k.
use Prim.Native.Nat.{ℕ, zero, suc, ◌*◌, ◌/◌, ◌%◌, ◌^◌, ◌≤◌, ◌<◌}
use mathlib.Core.Path.{◌≡◌, refl}
use native.Mathlib.Nat.{pow-suc, pow-succ', le_trans, mul-le-mul_right, min-le_left, div-div-eq-div-mul}
use native.Mathlib.Omega.{arith}
use lib.Bits.{bit_and, and_shr, and_step, and_le_l}
use lib.Count.{count_trailing_zeros}

pub record Low (k n : ℕ) : Type 0 where
  pub small : count_trailing_zeros k n < k
  pub within : 2 ^ count_trailing_zeros k n ≤ n
  pub set : n / 2 ^ count_trailing_zeros k n % 2 ≡ 1

pub low : (k n : ℕ) → 0 < n → n < 2 ^ k → Low k n
unfolding count_trailing_zeros
low zero n p h = absurd (omega arith)
low (suc k) n p h = go (n % 2) refl (low k (n / 2))
  where
    go : (d : ℕ) → n % 2 ≡ d → (0 < n / 2 → n / 2 < 2 ^ k → Low k (n / 2)) → Low (suc k) n
    go zero e half =
        let l : n < 2 ^ k * 2 = rw pow-suc at h in
        let r = half (omega arith) (omega arith) in
        let w : 2 ^ count_trailing_zeros k (n / 2) * 2 ≤ n = le_trans (mul-le-mul_right 2 r.within) (omega arith) in
        record { small = rw e (omega (arith, r.small)); within = rw (e, pow-suc) w; set = rw (e, pow-succ', ← div-div-eq-div-mul) r.set }
    go (suc d) e half = record { small = rw e (omega arith); within = rw e p; set = rw e (omega arith) }

-- So the lowest line that is due is set among the pended ones, and to take its worth away is to clear it.
pub due-pended : (p e : ℕ) → 0 < bit_and p e → p < 256 → p / 2 ^ count_trailing_zeros 8 (bit_and p e) % 2 ≡ 1
due-pended p e h b =
    let z = count_trailing_zeros 8 (bit_and p e) in
    let r = rw and_shr at (low 8 (bit_and p e) h (omega (arith, and_le_l p e))).set in
    omega (arith, r, and_step (p / 2 ^ z) (e / 2 ^ z), min-le_left (p / 2 ^ z % 2) (e / 2 ^ z % 2))
