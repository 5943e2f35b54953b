-- A Run returns the place of the state after it, refused or not.
use Rattle.calls.specs.Under.{under_policy}
use Rattle.calls.specs.Run.{state_of}
use Rattle.calls.proofs.Returned.{run_returns}
use Rattle.answers.proofs.run.Goals as goal

pub returns-clause-place : goal.returns-clause-place
returns-clause-place c =
    rw (c.run_result.ensures, c.run.ensures.answer)
    (run_returns (under_policy c.args.policy.now) (state_of c.args.memory.now c.args.place) c.args.ticks)
