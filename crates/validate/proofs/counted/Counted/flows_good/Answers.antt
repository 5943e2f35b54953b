-- The loop goes on to the last target; the invariant: no bit is stray where each pair with a target before t is good.
use mathlib.Core.Path.{◌≡◌, refl, ◌∙◌}
use native.Mathlib.Nat.{mod-eq_of_lt, one-mul}
use native.Mathlib.Omega.{arith}
use lib.Pow.{pow-lt}
use Rattle.policy.specs.Below.{each_below}
use Rattle.policy.specs.Clash.{clashes}
use Rattle.policy.specs.Range.{out_of_range}
use Rattle.policy.specs.Sound.{good_flow}
use Rattle.validate.proofs.Laws.Flows.{beyond_is, row_more, there_under, rows_told}
use Rattle.validate.proofs.counted.Counted.flows_good.Goals as goal

pub overflow_cast-there : goal.overflow_cast-there
overflow_cast-there c =
    let self = c.args.self.now in
    omega (arith, c.bits_below-there.ensures, there_under self.policy.now.segments self.counts.segments)

pub loop-t-init : goal.loop-t-init
unfolding each_below
loop-t-init c = refl

pub loop-t-preserved : goal.loop-t-preserved
loop-t-preserved c =
    let self = c.args.self.now in
    let p = self.policy.now in
    let there = c.bits_below-there.ensures in
    rw c.barred.ensures
    (row_more p.segments p.sources c.loop-t.t _ _ _ self.counts.segments
    (omega arith)
    there
    (beyond_is _ _ there self.counts.segments)
    (rw (one-mul, mod-eq_of_lt (pow-lt {j = 32} c.loop-t-test.true)))
    c.loop-t.stray
    c.loop-t.invariant)

pub returns : goal.returns
unfolding good_flow out_of_range clashes
returns c =
    let p = c.args.self.now.policy.now in
    let q : c.loop-t.t ≡ 32 = omega arith in
    c.loop-t.invariant ∙ rw q (rows_told p.segments p.sources)
