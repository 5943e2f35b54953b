-- The loop stops at the first segment that fails; the invariant: each before i passes, and they have ended.
use mathlib.Core.Path.{ap}
use mathlib.Core.Bool.{not}
use native.Mathlib.Omega.{arith}
use Rattle.policy.specs.Clash.{clashes}
use Rattle.policy.specs.Range.{out_of_range}
use Rattle.policy.specs.Sound.{good_segment}
use Rattle.policy.proofs.Laws.Loops.{test_none, test_found, test_more, test_done}
use Rattle.validate.proofs.counted.Counted.segments_good.Goals as goal

pub loop-i-init : goal.loop-i-init
loop-i-init c = (test_none _ _, λ j l. absurd (omega arith))

pub segment_passes-requires : goal.segment_passes-requires
segment_passes-requires c = c.loop-i.invariant.1

pub returns-then-not-segment_passes : goal.returns-then-not-segment_passes
unfolding good_segment out_of_range clashes
returns-then-not-segment_passes c =
    test_found _ _ _ _ c.loop-i-test.true c.segment_passes.ensures (ap not c.if-not-segment_passes.true)

pub end_after-end-requires : goal.end_after-end-requires
end_after-end-requires c = c.loop-i.invariant.1

pub loop-i-preserved : goal.loop-i-preserved
loop-i-preserved c = (
  test_more _ _ _ _ c.loop-i.invariant.0 c.loop-i-test.true c.segment_passes.ensures (ap not c.if-not-segment_passes.false),
  c.end_after-end.ensures,
)

pub returns : goal.returns
unfolding good_segment out_of_range clashes
returns c = test_done _ _ _ c.loop-i.invariant.0 c.loop-i-test.false
