-- Each turn is a stretch of the machine's ticks, as many as the slot has left or the Run, or as many ticks of a partition that is not able, which do
-- nothing; a state that stands has the slot, its partition and the segments in range.
use Rattle.policy.specs.Limits.{single}
use Rattle.policy.specs.Record.{tables_of}
use Rattle.calls.specs.Run.{state_of}
use Rattle.kernel.proofs.Laws.Turns.{Turned}
use Rattle.kernel.proofs.running.run_ticks.Given as goal

abbrev pub invariant-loop-left : goal.invariant-loop-left
invariant-loop-left l = Turned single (tables_of l.policy) (state_of l.initial.memory l.fn.place) l.fn.place.count l.n l.memory l.turn l.left

abbrev pub decreases-loop-left : goal.decreases-loop-left
decreases-loop-left l = l.left
