-- A stretch of a Run: ticks of one partition, one after another.
use Rattle.std.specs.Prelude.{ℕ, zero, suc, List, get_or}
use Rattle.policy.specs.declared.record.Policy.{Policy}
use Rattle.machine.specs.Place.{count_after}
use Rattle.machine.specs.Tick.{Seat, tick_of}
use Rattle.tick.specs.Seat.{seat_of}
use Rattle.tick.specs.Done.{ticked}

-- Memory after n ticks of the partition with this code and this save segment, the first of them at this count.
unfoldable pub ticked_by : Seat → ℕ → ℕ → ℕ → ℕ → List ℕ → List ℕ
ticked_by S code save count zero memory = memory
ticked_by S code save count (suc n) memory =
    ticked_by S code save (count_after 1 count) n (tick_of S code save count memory)

-- The same by numbers: of the save bytes from `from` on, and `room` bytes of code from `start` on.
unfoldable pub ticked_for : Seat → ℕ → ℕ → ℕ → ℕ → ℕ → List ℕ → List ℕ
ticked_for S from start room count zero memory = memory
ticked_for S from start room count (suc n) memory =
    ticked_for S from start room (count_after 1 count) n (ticked S from start room count memory)

-- Of a partition of a record, by its number.
abbrev pub ticked_of : Policy → ℕ → ℕ → ℕ → List ℕ → List ℕ
ticked_of p owner count n memory =
    ticked_by (seat_of p.base p.size (get_or p.reads owner 0) (get_or p.writes owner 0) p.segments)
    (get_or p.code owner 0)
    (get_or p.save owner 0)
    count
    n
    memory
