-- Four bytes, lowest first, are the word.
use Rattle.octets.specs.Numbers.{word}
use Rattle.std.proofs.Common.{rules}
use Rattle.machine.proofs.Laws.Numbers.{little-word}
use Rattle.parts.proofs.width.WordWidth.read.Goals as goal

pub returns : goal.returns
unfolding word
returns c = rw little-word (search rules)
