-- Each turn is an interrupt or none, and some ticks more of the partition, the first at the count that the last turn left. Where it is no longer able,
-- those that are left do nothing.
use Rattle.std.proofs.Common.{◌≡◌, true, length}
use Rattle.machine.specs.Local.{is_able}
use Rattle.parts.specs.Parts.{saved_at}
use Rattle.tick.specs.At.{seat_at}
use Rattle.kernel.proofs.Laws.Ticks.{Going}
use Rattle.kernel.proofs.stretch.stretch_at.Given as goal

abbrev pub invariant-loop-left : goal.invariant-loop-left
invariant-loop-left l = record {
  whole : length l.memory ≡ l.seat.whole;
  going : Going (seat_at l.seat) l.seat.from l.seat.start l.seat.room l.count l.n l.initial.memory l.left l.memory;
  able : is_able (saved_at l.memory l.seat.from) ≡ true;
}

abbrev pub decreases-loop-left : goal.decreases-loop-left
decreases-loop-left l = l.left
