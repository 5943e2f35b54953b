-- The test on the in-handler byte picks the same side as the definition; that byte lies behind the counter.
use Rattle.std.proofs.Common.{sym, ◌∙◌, mod-eq_of_lt, arith, rules}
use Rattle.machine.specs.Local.{comes_back}
use Rattle.savearea.proofs.Laws.Counters.{counter_put, counter_behind, counter-faults}
use Rattle.local.proofs.back.Goals as goal

pub returns-then-in_handler : goal.returns-then-in_handler
unfolding comes_back
returns-then-in_handler c =
    let inside = c in
    let counter = inside in
    let place = counter in
    let test = place in
    let start = test in (
      rw (
        ← test.in_handler.ensures,
        test.if-in_handler.true,
        inside.put.ensures,
        counter.put_half.ensures,
        place.get_half-to.ensures,
      ),
      rw (inside.put.ensures, counter.put_half.ensures)
          (sym (counter_behind _ 42 _ (omega arith) ∙ counter_put _ _ start.requires.1 ∙ mod-eq_of_lt (search rules))),
    )

pub returns-else-in_handler : goal.returns-else-in_handler
unfolding comes_back
returns-else-in_handler c =
    let test = c in
    let e = c.fault.ensures in
    let start = test in
    (rw (← test.in_handler.ensures, test.if-in_handler.false) e, rw e (start.requires.0 ∙ sym (counter-faults _ _)))
