-- The test on the in-handler byte picks the same side as the definition; the state lies behind the counter.
use Rattle.std.proofs.Common.{sym, ◌∙◌}
use Rattle.machine.specs.Local.{waits}
use Rattle.savearea.proofs.Laws.Counters.{counter-faults}
use Rattle.local.proofs.wait.Goals as goal

pub returns-then-in_handler : goal.returns-then-in_handler
unfolding waits
returns-then-in_handler c =
    let test = c in
    let e = c.fault.ensures in
    let start = test in
    (rw (← test.in_handler.ensures, test.if-in_handler.true) e, rw e (start.requires.0 ∙ sym (counter-faults _ _)))
