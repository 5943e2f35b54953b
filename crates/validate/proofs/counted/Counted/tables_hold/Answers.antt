-- The loop goes on to the last place; the invariant: nothing strays where all holds before i.
use native.Mathlib.Omega.{arith}
use Rattle.policy.specs.Clash.{clashes}
use Rattle.policy.specs.Range.{out_of_range}
use Rattle.policy.specs.Sound.{good_slot}
use Rattle.validate.proofs.Laws.Tables.{strays_none, strays_more, strays_done}
use Rattle.validate.proofs.counted.Counted.tables_hold.Goals as goal

pub loop-i-init : goal.loop-i-init
loop-i-init c =
    let p = c.args.self.now.policy.now in
    strays_none p.base p.size p.owner p.ticks p.segments p.partitions p.slots

pub loop-i-preserved : goal.loop-i-preserved
loop-i-preserved c =
    let self = c.args.self.now in
    let p = self.policy.now in
    strays_more p.base p.size p.owner p.ticks p.segments p.partitions p.slots self.counts.segments self.counts.slots c.loop-i.i c.loop-i.stray _ _ c.loop-i.invariant
    c.past.ensures
    c.slot_stray.ensures

pub returns : goal.returns
unfolding good_slot out_of_range clashes
returns c =
    let self = c.args.self.now in
    let p = self.policy.now in
    let lengths = self.lengths in
    strays_done p.base p.size p.owner p.ticks p.segments p.partitions p.slots self.counts.segments self.counts.slots
    lengths.base lengths.size lengths.owner lengths.ticks
    c.loop-i.i c.loop-i.stray c.loop-i.invariant (omega arith)
