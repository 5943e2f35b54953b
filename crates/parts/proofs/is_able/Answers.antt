-- The tests are the definition's, in its order.
use Rattle.parts.proofs.is_able.Goals as goal

pub returns-then-takes_interrupt : goal.returns-then-takes_interrupt
returns-then-takes_interrupt c = rw (← c.takes_interrupt.ensures, c.if-takes_interrupt.true)

pub returns : goal.returns
returns c = rw (← c.takes_interrupt.ensures, c.if-takes_interrupt.false) c.is_ready.ensures
