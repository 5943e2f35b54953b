-- By cases.
use Rattle.validate.proofs.Laws.Zeros.{or_none}
use Rattle.validate.proofs.arrays.slot_stray.Goals as goal

pub returns-then-partitions-owner : goal.returns-then-partitions-owner
returns-then-partitions-owner c = rw (c.if-used.true, c.if-partitions-owner.true)

pub returns-else-partitions-owner : goal.returns-else-partitions-owner
returns-else-partitions-owner c = rw (c.if-used.true, c.if-partitions-owner.false)

pub returns-else-used : goal.returns-else-used
returns-else-used c = let a = c.args in rw c.if-used.false (or_none a.owner a.given)
