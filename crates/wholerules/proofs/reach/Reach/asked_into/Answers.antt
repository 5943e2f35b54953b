-- The loop gathers what is asked for; the invariant: it is what the partitions before p ask for.
use mathlib.Core.Path.{◌≡◌, refl, ◌∙◌}
use native.Mathlib.Omega.{arith}
use Rattle.wholerules.specs.Masks.{asked_into}
use Rattle.wholerules.proofs.Laws.Asked.{asked_more}
use Rattle.wholerules.proofs.reach.Reach.asked_into.Goals as goal

pub loop-p-init : goal.loop-p-init
unfolding asked_into
loop-p-init c = refl

pub loop-p-preserved : goal.loop-p-preserved
loop-p-preserved c =
    let all = c.args.self.now in
    asked_more all.reached.now all.written.now c.args.t c.loop-p.p _ _ c.loop-p.invariant (c.picked-asked.ensures ∙ rw c.has_bit-write.ensures)

pub returns : goal.returns
returns c =
    let q : c.loop-p.p ≡ c.args.self.now.partitions = omega arith in
    c.loop-p.invariant ∙ rw q
