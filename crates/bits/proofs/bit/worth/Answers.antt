-- One bit moved up s places, which does not pass the width.
use native.Mathlib.Nat.{one-mul, mod-eq_of_lt}
use lib.Pow.{pow-lt}
use Rattle.bits.proofs.bit.worth.Goals as goal

pub returns : goal.returns
returns c = rw (one-mul, mod-eq_of_lt (pow-lt {j = 64} c.requires))
