-- The right decides first, and what is lent to a load is what `looks` shows of that segment; a fault asks.
use Rattle.machine.specs.Tick.{looks, loads}
use Rattle.parts.specs.Parts.{loaded_from}
use Rattle.parts.proofs.Laws.Counters.{hands_fault}
use Rattle.tick.proofs.Laws.Reach.{reach_base, reach_size, reach_inside}
use Rattle.tick.proofs.seat.Seat.load.Goals as goal

pub entry-requires : goal.entry-requires
entry-requires g c = reach_base c.args.self.now.segments_inside _ _ _ c.may.ensures c.if-may.true

pub entry-requires-then-may : goal.entry-requires-then-may
entry-requires-then-may g c = reach_size c.args.self.now.segments_inside _ _ _ c.may.ensures c.if-may.true

pub load_from-requires-clause-parts_inside : goal.load_from-requires-clause-parts_inside
load_from-requires-clause-parts_inside g c =
    let s = c.args.self.now in
    rw (c.entry.ensures, c.entry-then-may.ensures, c.requires.whole)
    (s.save_inside, reach_inside s.segments_inside _ _ _ c.may.ensures c.if-may.true)

pub returns-then-may-clause-loaded : goal.returns-then-may-clause-loaded
unfolding loads looks loaded_from
returns-then-may-clause-loaded g c =
    rw (c.load_from.ensures.loaded, c.entry-then-may.ensures, c.entry.ensures, ← c.may.ensures, c.if-may.true)

pub returns-else-may-clause-loaded : goal.returns-else-may-clause-loaded
unfolding loads
returns-else-may-clause-loaded g c = rw (c.fault.ensures, ← c.may.ensures, c.if-may.false)

pub returns-else-may-clause-hands : goal.returns-else-may-clause-hands
returns-else-may-clause-hands g c =
    rw c.fault.ensures
    (hands_fault c.args.memory.now c.args.self.now.from (rw c.requires.whole c.args.self.now.save_inside) _ _ c.requires.counter_and_registers.0)
