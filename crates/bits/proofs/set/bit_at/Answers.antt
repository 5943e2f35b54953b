-- A mask of 64 bits has none from 64 on.
use mathlib.Core.Path.{sym}
use native.Mathlib.Omega.{arith}
use borrow.Author.Tests.{le-ltb}
use Rattle.bits.proofs.Laws.Masks.{has_past}
use Rattle.bits.proofs.set.bit_at.Goals as goal

pub returns-else-s-lt64 : goal.returns-else-s-lt64
returns-else-s-lt64 c = let a = c.args in rw (le-ltb a.s 64 (omega arith)) (sym (has_past 64 a.mask a.s (omega arith) (omega arith)))
