-- What a Start or a Run returns beside its number: "the place is slot 0 with 0 used", and "a refused Run returns the place it was
-- given". Statements; the proofs are in proofs/.
use Rattle.std.specs.Prelude.{ℕ, ◌≡◌, List}
use Rattle.std.specs.Result.{result_unwrap_or}
use Rattle.machine.specs.Machine.{State}
use Rattle.calls.specs.Under.{Under}
use Rattle.calls.specs.Start.{start_place, start_answer}
use Rattle.calls.specs.Run.{run_answer, after_run}

-- Of every record and every memory, refused Starts too.
abbrev pub StartReturns : Type 0
StartReturns =
    (u : Under) (memory : List ℕ) →
    result_unwrap_or (start_answer u memory) start_place ≡ start_place

-- Of every record and every state, refused Runs too: with the place that it was given for a refused one's, the place is the one of
-- the state after the Run, which lists of calls go on from.
abbrev pub RunReturns : Type 0
RunReturns =
    (u : Under) (x : State) (n : ℕ) →
    result_unwrap_or (run_answer u x n) x.place ≡ (after_run u x n).place
