-- The loop has summed the ticks of the slots that it has passed, at most 1,000 each.
use mathlib.Core.Path.{refl}
use native.Mathlib.Omega.{arith}
use lib.ListN.{get_or}
use Rattle.policy.specs.Below.{sum_below}
use Rattle.policy.proofs.Laws.Sums.{sum_next, sum_most}
use Rattle.schedule.proofs.round.round_ticks.Goals as goal

pub loop-i-init : goal.loop-i-init
unfolding sum_below
loop-i-init c = refl

pub overflow_add-sum : goal.overflow_add-sum
overflow_add-sum c =
    let i = c.loop-i.i in
    omega (arith, c.requires.1 i (omega arith), sum_most (λ k. get_or c.args.ticks.now k 0) i (λ k h. c.requires.1 k (omega arith)))

pub loop-i-preserved : goal.loop-i-preserved
loop-i-preserved c = sum_next (λ k. get_or c.args.ticks.now k 0) c.loop-i.i c.loop-i.sum c.loop-i.invariant
