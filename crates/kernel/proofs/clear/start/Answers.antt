-- What the first tests refuse is refused and left; else every save segment is cleared.
use Rattle.std.proofs.Common.{sym}
use Rattle.std.proofs.lemmas.Result.{err_from_is_err_and}
use Rattle.calls.specs.Under.{under_policy}
use Rattle.calls.specs.Start.{start_answer, after_start}
use Rattle.calls.proofs.Laws.Outcomes.{start_whole, start_sound}
use Rattle.kernel.proofs.clear.start.Goals as goal

pub returns-in_err-tested-clause-answer : goal.returns-in_err-tested-clause-answer
unfolding start_answer
returns-in_err-tested-clause-answer c =
    let p = err_from_is_err_and c.from_residual.result c.from_residual.ensures.1 in
    rw (p.1, p.2, sym c.in_err-tested.ensures)

pub returns-in_err-tested-clause-memory_after : goal.returns-in_err-tested-clause-memory_after
unfolding after_start
returns-in_err-tested-clause-memory_after c = rw (sym c.in_err-tested.ensures)

pub clear_saves-requires-clause-sound : goal.clear_saves-requires-clause-sound
clear_saves-requires-clause-sound c = start_sound (under_policy c.args.policy.now) c.args.memory.now (sym c.in_ok-tested.ensures)

pub clear_saves-requires-clause-whole : goal.clear_saves-requires-clause-whole
clear_saves-requires-clause-whole c = start_whole (under_policy c.args.policy.now) c.args.memory.now (sym c.in_ok-tested.ensures)

pub returns-clause-answer : goal.returns-clause-answer
unfolding start_answer
returns-clause-answer c = rw (sym c.in_ok-tested.ensures)

pub returns-clause-memory_after : goal.returns-clause-memory_after
unfolding after_start
returns-clause-memory_after c = rw (sym c.in_ok-tested.ensures) c.clear_saves.ensures
