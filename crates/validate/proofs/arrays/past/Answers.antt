-- By cases.
use Rattle.validate.proofs.arrays.past.Goals as goal

pub returns-else-used : goal.returns-else-used
returns-else-used c = rw c.if-used.false
