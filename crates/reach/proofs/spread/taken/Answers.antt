-- Either answer by the test.
use borrow.Author.Tests.{eq-eqb, ne_eqb}
use Rattle.reach.proofs.spread.taken.Goals as goal

pub returns-then-row-k-eq1 : goal.returns-then-row-k-eq1
returns-then-row-k-eq1 c = rw (eq-eqb _ _ c.if-row-k-eq1.true)

pub returns-else-row-k-eq1 : goal.returns-else-row-k-eq1
returns-else-row-k-eq1 c = rw (ne_eqb _ _ c.if-row-k-eq1.false)
