-- A word's four bytes, lowest first.
use Rattle.octets.specs.Numbers.{with_word}
use Rattle.std.proofs.Common.{rules}
use Rattle.machine.proofs.Laws.Numbers.{digits-word}
use Rattle.parts.proofs.width.WordWidth.write.Goals as goal

pub returns : goal.returns
unfolding with_word
returns c = rw digits-word (search rules)
