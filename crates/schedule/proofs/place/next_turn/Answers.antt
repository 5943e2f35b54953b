-- The test is the definition's.
use borrow.Author.Tests.{lt-ltb, le-ltb}
use Rattle.schedule.proofs.place.next_turn.Goals as goal

pub returns-then-next-slots : goal.returns-then-next-slots
returns-then-next-slots c = rw (lt-ltb _ _ c.if-next-slots.true, c.entry_or.ensures)

pub returns : goal.returns
returns c = rw (le-ltb _ _ c.if-next-slots.false, c.entry_or-2.ensures)
