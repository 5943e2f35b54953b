-- One byte is the number.
use Rattle.machine.proofs.Laws.Numbers.{little-one}
use Rattle.parts.proofs.width.ByteWidth.read.Goals as goal

pub returns : goal.returns
returns c = rw (little-one, c.from.ensures)
