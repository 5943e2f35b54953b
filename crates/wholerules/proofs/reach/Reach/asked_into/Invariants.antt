-- The loop gathers what is asked for; the invariant: it is what the partitions before p ask for.
use mathlib.Core.Path.{◌≡◌}
use Rattle.wholerules.specs.Masks.{asked_into}
use Rattle.wholerules.proofs.reach.Reach.asked_into.Given as goal

abbrev pub invariant-loop-p : goal.invariant-loop-p
invariant-loop-p l = l.asked ≡ asked_into l.self.reached.now l.self.written.now l.t l.p
