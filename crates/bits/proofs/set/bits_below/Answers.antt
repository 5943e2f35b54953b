-- The mask of all numbers below n is one less than 2 to the power n.
use mathlib.Core.Path.{◌≡◌}
use native.Mathlib.Omega.{arith}
use lib.Pow.{pow_pos}
use Rattle.bits.proofs.Laws.Sets.{all_is}
use Rattle.bits.proofs.set.bits_below.Goals as goal

pub overflow_sub-result : goal.overflow_sub-result
overflow_sub-result c = omega (arith, pow_pos c.args.n)

pub returns-then-n-lt64 : goal.returns-then-n-lt64
returns-then-n-lt64 c = omega (arith, all_is c.args.n)

pub returns-else-n-lt64 : goal.returns-else-n-lt64
returns-else-n-lt64 c =
    let q : c.args.n ≡ 64 = omega arith in
    rw q (omega (arith, all_is 64))
