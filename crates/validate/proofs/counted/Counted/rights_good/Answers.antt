-- The loop goes on to the last partition; the invariant: the save segments and the rights before p are gathered.
use native.Mathlib.Omega.{arith}
use Rattle.policy.specs.Clash.{clashes}
use Rattle.policy.specs.Range.{out_of_range}
use Rattle.policy.specs.Sound.{good_right}
use Rattle.validate.proofs.Laws.Rights.{gathered_none, gathered_more, gathered_told}
use Rattle.validate.proofs.counted.Counted.rights_good.Goals as goal

pub loop-p-init : goal.loop-p-init
loop-p-init c =
    let p = c.args.self.now.policy.now in
    gathered_none p.segments p.partitions p.save p.reads p.writes

pub loop-p-preserved : goal.loop-p-preserved
loop-p-preserved c =
    let self = c.args.self.now in
    let p = self.policy.now in
    gathered_more p.segments p.partitions p.save p.reads p.writes self.counts.segments
    c.loop-p.p c.loop-p.saves c.loop-p.held _ c.loop-p.invariant c.bit_of-saves.ensures

pub returns : goal.returns
unfolding good_right out_of_range clashes
returns c =
    let self = c.args.self.now in
    let p = self.policy.now in
    rw (c.within.ensures, c.bits_below-there.ensures)
    (gathered_told p.segments p.partitions p.save p.reads p.writes self.counts.segments
    c.loop-p.p c.loop-p.saves c.loop-p.held (omega arith) c.loop-p.invariant (omega arith))
