-- Each turn is one tick more of the partition, at the next count and with the counter that the last one left. Each is plain, and the first has an
-- instruction at its counter, so that one at least is done.
use Rattle.std.proofs.Common.{◌≡◌, ◌+◌, ◌<◌, ◌≤◌, true, ◌⊎◌, length}
use Rattle.machine.specs.Save.{counter}
use Rattle.savearea.specs.Next.{is_plain}
use Rattle.parts.specs.Parts.{saved_at}
use Rattle.tick.specs.At.{seat_at}
use Rattle.kernel.proofs.Laws.Ticks.{Reckoned}
use Rattle.kernel.proofs.stretch.steps.Given as goal

abbrev pub invariant-loop-left : goal.invariant-loop-left
invariant-loop-left l = record {
  whole : length l.memory ≡ l.seat.whole;
  done : Reckoned (seat_at l.seat) l.seat.from l.seat.start l.seat.room l.n l.end l.initial.memory l.left l.memory;
  counter_is : l.pc ≡ counter (saved_at l.memory l.seat.from);
  plain : is_plain (saved_at l.memory l.seat.from) ≡ true;
  some_done : (l.left < l.n) ⊎ (l.pc + 4 ≤ l.seat.room);
  most : l.left ≤ l.n;
  counter_fits : l.pc < 65536;
}

abbrev pub decreases-loop-left : goal.decreases-loop-left
decreases-loop-left l = l.left
