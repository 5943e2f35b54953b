-- What a tick asks of the policy, by the seat that the code is lent.
use Rattle.tick.specs.declared.seat.Seat.{Seat}
use Rattle.machine.specs.Tick as machine
use Rattle.tick.specs.Seat.{seat_of}

abbrev pub seat_at : Seat → machine.Seat
seat_at s = seat_of s.base.now s.size.now s.reads s.writes s.segments
