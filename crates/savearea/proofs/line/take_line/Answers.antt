-- The lowest line of the pended and enabled ones is worth no more than the pended ones.
use mathlib.Core.Path.{◌≡◌, refl}
use Prim.Native.Nat.{◌*◌, ◌%◌, ◌^◌}
use native.Mathlib.Omega.{arith}
use native.Mathlib.Nat.{one-mul, mod-eq_of_lt, le_trans}
use lib.Bits.{bit_and, and_le_l}
use lib.Count.{count_trailing_zeros, trailing_le}
use lib.Pow.{pow-lt}
use Rattle.savearea.proofs.Laws.Lines.{Low, low}
use Rattle.savearea.proofs.line.take_line.Goals as goal

-- The lines are not 0, and are a byte.
lowest-of : (c : goal.Start) → Low 8 (bit_and c.args.pended c.args.enabled)
lowest-of c =
    let p = c.args.pended in
    let e = c.args.enabled in
    low 8 (bit_and p e) c.requires (omega (arith, and_le_l p e))

-- The shifted 1 is a power of 2, with no bit lost.
bit_is : (c : goal.Start) → 1 * 2 ^ count_trailing_zeros 8 (bit_and c.args.pended c.args.enabled) % 256 ≡ 2 ^ count_trailing_zeros 8 (bit_and c.args.pended c.args.enabled)
bit_is c = rw one-mul (mod-eq_of_lt (pow-lt {j = 8} (lowest-of c).small))

pub overflow_cast-bit : goal.overflow_cast-bit
overflow_cast-bit c = omega (arith, trailing_le 8 (bit_and c.args.pended c.args.enabled))

pub overflow_shl-bit : goal.overflow_shl-bit
overflow_shl-bit c = (lowest-of c).small

pub overflow_sub-result : goal.overflow_sub-result
overflow_sub-result c = rw (bit_is c) (le_trans (lowest-of c).within (and_le_l c.args.pended c.args.enabled))

pub returns : goal.returns
returns c = record {
  line_value = refl;
  pended_value = rw (bit_is c);
}
