-- The lowest byte alone.
use Rattle.machine.proofs.Laws.Numbers.{digits-one}
use Rattle.parts.proofs.width.ByteWidth.write.Goals as goal

pub returns : goal.returns
returns c = rw (digits-one, c.low.ensures)
