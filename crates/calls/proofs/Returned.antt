-- The place that a Start or a Run returns, refused or not, where a refused one's is put beside what it answers.
use Rattle.std.proofs.Common.{◌≡◌, refl}
use Rattle.std.specs.Prelude.{Ok, Err}
use Rattle.std.specs.Result.{result_and, result_unwrap_or}
use Rattle.machine.specs.Machine.{State}
use Rattle.calls.specs.Outcomes.{Outcome, acts}
use Rattle.calls.specs.Start.{start_place, start_answer, start_outcome}
use Rattle.calls.specs.Run.{run_outcome, run_answer, after_run, after_ticks}
use Rattle.calls.specs.Returned.{StartReturns, RunReturns}

start_kept : (o : Outcome) → result_unwrap_or (result_and o (Ok start_place)) start_place ≡ start_place
start_kept (Ok acted) = refl
start_kept (Err refused) = refl

pub start_returns : StartReturns
unfolding start_answer
start_returns u memory = start_kept (start_outcome u memory)

run_kept : (o : Outcome) (x y : State) →
    result_unwrap_or (result_and o (Ok (acts o y x).place)) x.place ≡ (acts o y x).place
run_kept (Ok acted) x y = refl
run_kept (Err refused) x y = refl

pub run_returns : RunReturns
unfolding run_answer after_run
run_returns u x n = run_kept (run_outcome u x n) x (after_ticks u.view n x)
