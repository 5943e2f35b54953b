-- The loop stops at the first partition that fails; the invariant: each before i passes.
use mathlib.Core.Path.{ap}
use mathlib.Core.Bool.{not}
use Rattle.policy.specs.Clash.{clashes}
use Rattle.policy.specs.Range.{out_of_range}
use Rattle.policy.specs.Sound.{good_partition}
use Rattle.policy.proofs.Laws.Loops.{test_none, test_found, test_more, test_done}
use Rattle.validate.proofs.counted.Counted.partitions_good.Goals as goal

pub loop-i-init : goal.loop-i-init
loop-i-init c = test_none _ _

pub returns-then-not-partition_passes : goal.returns-then-not-partition_passes
unfolding good_partition out_of_range clashes
returns-then-not-partition_passes c =
    test_found _ _ _ _ c.loop-i-test.true c.partition_passes.ensures (ap not c.if-not-partition_passes.true)

pub loop-i-preserved : goal.loop-i-preserved
loop-i-preserved c =
    test_more _ _ _ _ c.loop-i.invariant c.loop-i-test.true c.partition_passes.ensures (ap not c.if-not-partition_passes.false)

pub returns : goal.returns
unfolding good_partition out_of_range clashes
returns c = test_done _ _ _ c.loop-i.invariant c.loop-i-test.false
