-- The right decides first, and the store by numbers is the effect applied; a fault asks.
use Rattle.machine.specs.Tick.{stores_bytes}
use Rattle.parts.proofs.Laws.Counters.{hands_fault}
use Rattle.tick.specs.At.{seat_at}
use Rattle.tick.proofs.Laws.Reach.{reach_base, reach_size, reach_inside, stored_to_lem}
use Rattle.tick.proofs.seat.Seat.store.Goals as goal

pub entry-requires : goal.entry-requires
entry-requires g c = reach_base c.args.self.now.segments_inside _ _ _ c.may.ensures c.if-may.true

pub entry-requires-then-may : goal.entry-requires-then-may
entry-requires-then-may g c = reach_size c.args.self.now.segments_inside _ _ _ c.may.ensures c.if-may.true

pub store_to-requires-clause-parts_inside : goal.store_to-requires-clause-parts_inside
store_to-requires-clause-parts_inside g c =
    let s = c.args.self.now in
    rw (c.entry.ensures, c.entry-then-may.ensures, c.requires.whole)
    (s.save_inside, reach_inside s.segments_inside _ _ _ c.may.ensures c.if-may.true)

pub returns-then-may-clause-stored : goal.returns-then-may-clause-stored
returns-then-may-clause-stored g c =
    let s = c.args.self.now in
    rw (
      c.store_to.ensures.stored,
      c.entry-then-may.ensures,
      c.entry.ensures,
      stored_to_lem (seat_at s) g.W.Width.BYTES c.args.memory.now s.from c.args.a c.args.b c.args.c _ c.may.ensures c.if-may.true,
    )

pub returns-else-may-clause-stored : goal.returns-else-may-clause-stored
unfolding stores_bytes
returns-else-may-clause-stored g c = rw (c.fault.ensures, ← c.may.ensures, c.if-may.false)

pub returns-else-may-clause-hands : goal.returns-else-may-clause-hands
returns-else-may-clause-hands g c =
    rw c.fault.ensures
    (hands_fault c.args.memory.now c.args.self.now.from (rw c.requires.whole c.args.self.now.save_inside) _ _ c.requires.counter_and_registers.0)
