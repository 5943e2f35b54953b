-- A Start returns slot 0 with 0 used, refused or not.
use Rattle.calls.specs.Under.{under_policy}
use Rattle.calls.proofs.Returned.{start_returns}
use Rattle.answers.proofs.start.Goals as goal

pub returns-clause-place : goal.returns-clause-place
returns-clause-place c =
    rw (c.run_result.ensures, c.start.ensures.answer) (start_returns (under_policy c.args.policy.now) c.args.memory.now)
