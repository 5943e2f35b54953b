-- Each return follows from the tests on the way to it: which of them is made first does not matter.
use mathlib.Core.Bool.{and-false}
use mathlib.Core.Path.{sym, ◌∙◌}
use borrow.Author.Tests.{eq-eqb, ne_eqb}
use Rattle.machine.specs.Local.{takes_interrupt}
use Rattle.savearea.proofs.line.takes_interrupt.Goals as goal

pub returns-then-lines-eq0 : goal.returns-then-lines-eq0
unfolding takes_interrupt
returns-then-lines-eq0 c =
    rw (← c.entry_or.ensures, ← c.entry_or-2.ensures, eq-eqb _ _ c.if-lines-eq0.true, and-false)

pub returns-then-in_handler : goal.returns-then-in_handler
unfolding takes_interrupt
returns-then-in_handler c = rw (sym c.in_handler.ensures ∙ c.if-in_handler.true)

pub returns : goal.returns
unfolding takes_interrupt
returns c =
    let outside = c in
    let handler = outside in
    let lines = handler in
    rw (
      c.entry_or-state.ensures,
      sym handler.in_handler.ensures ∙ outside.if-in_handler.false,
      ← lines.entry_or.ensures,
      ← lines.entry_or-2.ensures,
      ne_eqb _ _ lines.if-lines-eq0.false,
    )
