-- The loop has summed the ticks of the slots that it has passed.
use mathlib.Core.Path.{◌≡◌}
use lib.ListN.{get_or}
use Rattle.policy.specs.Below.{sum_below}
use Rattle.schedule.proofs.round.round_ticks.Given as goal

abbrev pub invariant-loop-i : goal.invariant-loop-i
invariant-loop-i l = l.sum ≡ sum_below l.i (λ k. get_or l.ticks k 0)
