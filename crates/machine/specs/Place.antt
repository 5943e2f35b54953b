-- 01, "A tick": "After each tick the ticks used in the slot gain 1. At the slot's ticks the next slot begins with 0
-- used; after the last comes slot 0. No instruction can alter the schedule." 02, S-8: "The schedule place gains a count of
-- ticks since Start, modulo 4,294,967,296, which Start, refused too, sets to 0 and each tick raises."
use Rattle.std.specs.Prelude.{ℕ, ◌+◌, ◌%◌, Bool, ◌&&◌, cond, ltb}
use Rattle.policy.specs.View.{View}
use Rattle.policy.specs.Schedule.{ticks_before}
use Rattle.machine.specs.declared.Place.{Place}

abbrev pub place_of : ℕ → ℕ → ℕ → Place
place_of slot used count = record { slot = slot; used = used; count = count }

-- A place that refusal 13 lets pass; 13: "slot not in the schedule, or ticks used at or past the slot's". Every count is a
-- good one.
unfoldable pub is_place : View → Place → Bool
is_place v place = ltb place.slot v.slots && ltb place.used (v.ticks place.slot)

-- The ticks of the round before a place.
abbrev pub position : View → Place → ℕ
position v place = ticks_before v place.slot + place.used

-- The slot after a tick of a slot with so many ticks used, and the ticks used then; neither asks for the count.
unfoldable pub next_slot : View → ℕ → ℕ → ℕ
next_slot v slot used =
    cond (ltb (used + 1) (v.ticks slot)) slot (cond (ltb (slot + 1) v.slots) (slot + 1) 0)

unfoldable pub next_used : View → ℕ → ℕ → ℕ
next_used v slot used = cond (ltb (used + 1) (v.ticks slot)) (used + 1) 0

-- "modulo 4,294,967,296": the counts are those below this.
abbrev pub counts : ℕ
counts = 4294967296

-- The count after so many ticks.
abbrev pub count_after : ℕ → ℕ → ℕ
count_after n count = (count + n) % counts

-- The place after a tick. The count is raised whatever the tick does: an instruction, a fault, an interrupt, nothing.
abbrev pub moved : View → Place → Place
moved v place =
    record {
      slot = next_slot v place.slot place.used;
      used = next_used v place.slot place.used;
      count = count_after 1 place.count;
    }
