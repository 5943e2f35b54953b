-- The invariant: all are 0 where what was read is 0 and what is left is.
use mathlib.Core.Path.{refl}
use Rattle.validate.proofs.Laws.Zeros.{zero_more, zero_done}
use Rattle.validate.proofs.counted.Counted.partitions_unused.Goals as goal

pub loop-p-init : goal.loop-p-init
loop-p-init c = refl

pub loop-p-preserved : goal.loop-p-preserved
loop-p-preserved c =
    let lengths = c.args.self.now.lengths in
    let p = c.args.self.now.policy.now in
    zero_more p.code p.save p.reads p.writes 8 p.partitions c.loop-p.p c.loop-p.used c.loop-p.invariant
    lengths.code lengths.save lengths.reads lengths.writes c.loop-p-test.true

pub returns : goal.returns
returns c =
    let lengths = c.args.self.now.lengths in
    let p = c.args.self.now.policy.now in
    zero_done p.code p.save p.reads p.writes 8 p.partitions c.loop-p.p c.loop-p.used c.loop-p.invariant
    lengths.code lengths.save lengths.reads lengths.writes c.loop-p-test.false
