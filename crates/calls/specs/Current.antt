-- 02, S-7: "in which it isn't current". The schedule sheet speaks of the ticks of the schedule; these are the machine's own.
use Rattle.std.specs.Prelude.{ℕ, ◌+◌, ◌≡◌, true, List}
use Rattle.policy.specs.View.{View}
use Rattle.policy.specs.Schedule.{booked, slot_at}
use Rattle.machine.specs.declared.Place.{Place}
use Rattle.machine.specs.Place.{place_of, is_place, position}
use Rattle.machine.specs.Machine.{current}
use Rattle.calls.specs.Run.{state_of, after_ticks}

-- The place after i ticks stands in the slot of the tick that comes next, wherever the ticks began and whatever memory held.
abbrev pub StandsIn : View → Type 0
StandsIn v =
    (memory : List ℕ) (place : Place) → is_place v place ≡ true →
    (i : ℕ) → (after_ticks v i (state_of memory place)).place.slot ≡ slot_at v (position v place + i)

-- From slot 0 with 0 used on, at any count: the current partition is the one under which the slot of the i-th tick is
-- booked.
abbrev pub CurrentAt : View → Type 0
CurrentAt v =
    (memory : List ℕ) (count i : ℕ) →
    current v (after_ticks v i (state_of memory (place_of 0 0 count))) ≡ booked v (slot_at v i)
