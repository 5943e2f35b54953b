-- Past the segments nothing is reached, and below them the mask's bit decides.
use borrow.Author.Tests.{lt-ltb, le-ltb}
use Rattle.machine.specs.Tick.{reaches}
use Rattle.tick.proofs.reach.may.Goals as goal

pub returns-then-c-segments : goal.returns-then-c-segments
unfolding reaches
returns-then-c-segments c = rw (c.has_bit.ensures, lt-ltb _ _ c.if-c-segments.true)

pub returns : goal.returns
unfolding reaches
returns c = rw (le-ltb _ _ c.if-c-segments.false)
