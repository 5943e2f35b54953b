-- A step is handed on before a plain tick alone; else the definition is asked, its two tests in turn.
use Rattle.std.proofs.Common.{sym, ◌∙◌}
use Rattle.savearea.specs.Next.{is_plain}
use Rattle.kernel.proofs.stretch.goes_on.Goals as goal

pub returns-in-Steps : goal.returns-in-Steps
returns-in-Steps c = λ before plain handed. sym ((rw c.in-Steps.is at handed).1 ∙ plain)

pub returns-then-takes_interrupt : goal.returns-then-takes_interrupt
unfolding is_plain
returns-then-takes_interrupt c = λ before plain handed. rw (← c.takes_interrupt.ensures, c.if-takes_interrupt.true)

pub returns : goal.returns
unfolding is_plain
returns c =
    let t = c in
    λ before plain handed. rw (← t.takes_interrupt.ensures, t.if-takes_interrupt.false) c.is_ready.ensures
