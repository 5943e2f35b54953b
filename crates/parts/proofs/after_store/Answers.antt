-- Where no save byte was stored the counter is the one that was put; else it is read.
use Rattle.parts.specs.Parts.{is_beside}
use Rattle.parts.proofs.after_store.Goals as goal

pub returns-then-at-width : goal.returns-then-at-width
unfolding is_beside
returns-then-at-width c = λ before same. (c.requires.put_beside c.if-at-width.true, same c.if-at-width.true)

pub returns : goal.returns
returns c = λ before same. c.get_counter.ensures
