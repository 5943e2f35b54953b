-- A plain tick steps, and its counter is not over: what stands there is obeyed, and names registers alone.
use borrow.Author.Tests.{le-ltb}
use Rattle.machine.specs.Tick.{effect, steps}
use Rattle.savearea.proofs.Laws.Named.{fetched_named}
use Rattle.savearea.proofs.Laws.Next.{plain_both}
use Rattle.tick.proofs.seat.Seat.step.Goals as goal

pub obey-requires-clause-counter_and_registers : goal.obey-requires-clause-counter_and_registers
obey-requires-clause-counter_and_registers c = (c.requires.counter_in_code.0, rw c.fetch-d.ensures (fetched_named _ _))

pub returns-clause-ticked : goal.returns-clause-ticked
unfolding effect steps
returns-clause-ticked c =
    let p = c.requires in
    let plain = plain_both _ p.plain in
    rw (c.obey.ensures.obeyed, c.fetch-d.ensures, plain.0, plain.1, ← p.counter_in_code.0, le-ltb _ _ p.counter_in_code.1)
