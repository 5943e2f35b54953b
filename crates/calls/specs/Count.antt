-- 02, S-8: "a count of ticks since Start, modulo 4,294,967,296, which Start, refused too, sets to 0 and each tick raises".
-- Statements; the proofs are in proofs/.
use Rattle.std.specs.Prelude.{ℕ, ◌<◌, ◌≡◌, List}
use Rattle.std.specs.Result.{result_unwrap_or}
use Rattle.policy.specs.View.{View}
use Rattle.machine.specs.Place.{counts, count_after}
use Rattle.machine.specs.Machine.{State}
use Rattle.machine.specs.Fetches.{Fetches}
use Rattle.calls.specs.Under.{Under}
use Rattle.calls.specs.Start.{start_place, start_answer, after_start}
use Rattle.calls.specs.Run.{state_of, after_ticks}
use Rattle.calls.specs.Lists.{Call, exec, ticks}

-- "each tick raises": n ticks raise the count by n, whatever they do.
abbrev pub Counted : Type 0
Counted =
    (v : View) (n : ℕ) (x : State) → x.place.count < counts →
    (after_ticks v n x).place.count ≡ count_after n x.place.count

-- "ticks since Start": after a Start, refused or not, and a list of Pends and Runs, refused ones included, the count is the
-- ticks that the Runs did in all, modulo 4,294,967,296.
abbrev pub Started : Type 0
Started =
    (u : Under) (memory : List ℕ) (cs : List Call) →
    let x = state_of (after_start u memory) (result_unwrap_or (start_answer u memory) start_place) in
    (exec u cs x).place.count ≡ count_after (ticks u cs x) 0

-- Two states that may differ in the count, and in nothing else.
pub record SameButCount (x y : State) : Type 0 where
  pub same_memory : x.memory ≡ y.memory
  pub same_slot : x.place.slot ≡ y.place.slot
  pub same_used : x.place.used ≡ y.place.used

-- "Old opcodes act as they did": where none of n ticks fetches 15, the count decides nothing. It is enough that the ticks of
-- one of the states fetch no 15.
abbrev pub CountUnread : Type 0
CountUnread =
    (v : View) (n : ℕ) (x y : State) → SameButCount x y →
    ((k : ℕ) → k < n → Fetches v (after_ticks v k x) 15 → ⊥) →
    SameButCount (after_ticks v n x) (after_ticks v n y)
