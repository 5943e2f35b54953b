-- An interrupt is a tick at any count, and leaves the partition ready and in its handler; without one it is ready, since it is able.
use Rattle.std.proofs.Common.{sym, ◌∙◌}
use Rattle.parts.specs.Parts.{saved_at}
use Rattle.machine.proofs.Laws.Tests.{interrupts_due}
use Rattle.savearea.proofs.Laws.Next.{plain_of}
use Rattle.parts.proofs.Laws.Counters.{plain_taken}
use Rattle.kernel.proofs.Laws.Ticks.{interrupt_tick, first_alone, none_done, able_ready}
use Rattle.kernel.proofs.stretch.take_interrupt.Goals as goal

pub interrupt-requires-clause-line_due : goal.interrupt-requires-clause-line_due
interrupt-requires-clause-line_due c = interrupts_due _ (sym c.takes_interrupt.ensures ∙ c.if-takes_interrupt.true)

pub returns-then-takes_interrupt-clause-plain : goal.returns-then-takes_interrupt-clause-plain
returns-then-takes_interrupt-clause-plain c =
    let s = c.args.seat.now in
    rw c.interrupt.ensures (plain_taken c.args.memory.now s.from (rw c.requires.whole s.save_inside))

pub returns-then-takes_interrupt-clause-ticked : goal.returns-then-takes_interrupt-clause-ticked
returns-then-takes_interrupt-clause-ticked c =
    let m = c.args.memory.now in
    let from = c.args.seat.now.from in
    let e = c.interrupt.ensures in
    let takes = sym c.takes_interrupt.ensures ∙ c.if-takes_interrupt.true in
    λ S here room count. (first_alone S from here room c.args.n m _ c.requires.able.1 (λ k. e ∙ interrupt_tick S from here room k m takes)).1 count

pub returns-clause-plain : goal.returns-clause-plain
returns-clause-plain c =
    let s = saved_at c.args.memory.now c.args.seat.now.from in
    let none = sym c.takes_interrupt.ensures ∙ c.if-takes_interrupt.false in
    plain_of s none (able_ready s c.requires.able.0 none)

pub returns-clause-ticked : goal.returns-clause-ticked
returns-clause-ticked c = λ S here room count. none_done S c.args.seat.now.from here room count c.args.n c.args.memory.now
