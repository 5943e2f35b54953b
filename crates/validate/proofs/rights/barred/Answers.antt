-- The two values, by what the test found.
use borrow.Author.Tests.{ne_eqb}
use Rattle.validate.proofs.rights.barred.Goals as goal

pub returns-then-there-bit-eq0 : goal.returns-then-there-bit-eq0
returns-then-there-bit-eq0 c = rw c.if-there-bit-eq0.true

pub returns-else-there-bit-eq0 : goal.returns-else-there-bit-eq0
returns-else-there-bit-eq0 c = rw (ne_eqb _ _ c.if-there-bit-eq0.false)
