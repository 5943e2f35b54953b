-- A counter that is over is a tick at any count; else the ticks are steps, and the first has an instruction at its counter.
use Rattle.std.proofs.Common.{◌≡◌, ◌+◌, true, ltb, lt-ltb}
use Rattle.machine.specs.Save.{counter}
use Rattle.parts.specs.Parts.{saved_at}
use Rattle.tick.specs.At.{seat_at}
use Rattle.savearea.proofs.Laws.Next.{plain_both}
use Rattle.kernel.proofs.Laws.Ticks.{over_tick, first_alone}
use Rattle.kernel.proofs.stretch.ready_ticks.Goals as goal

pub returns-then-seat-pc-clause-ticked : goal.returns-then-seat-pc-clause-ticked
returns-then-seat-pc-clause-ticked c =
    let m = c.args.memory.now in
    let a = c.args.seat.now in
    let S = seat_at a in
    let plain = plain_both _ c.requires.plain in
    let over : ltb a.room (counter (saved_at m a.from) + 4) ≡ true = rw (← c.get_counter-pc.ensures) (lt-ltb _ _ c.if-seat-pc.true) in
    let first = first_alone S a.from a.start a.room c.args.n m c.fault.new.memory c.requires.some_few.0
    (λ k. rw c.fault.ensures (over_tick S a.from a.start a.room k m plain.0 plain.1 over)) in
    λ count h e. first.1 count
