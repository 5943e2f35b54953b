-- 01: "Run n ticks. 9, 10, then 13: slot not in the schedule, or ticks used at or past the slot's. 14: n over 10,000.
-- Else n ticks are done and the new place is returned; n = 0 changes nothing."
use Rattle.std.specs.Prelude.{ℕ, zero, suc, not, List, [], ◌∷◌, ltb, Ok, Err, Result}
use Rattle.std.specs.Result.{result_and}
use Rattle.policy.specs.First.{first_of}
use Rattle.policy.specs.View.{View}
use Rattle.machine.specs.declared.Place.{Place}
use Rattle.machine.specs.Place.{is_place}
use Rattle.machine.specs.Machine.{State, next}
use Rattle.calls.specs.Under.{Under}
use Rattle.calls.specs.declared.Refused.{Refused}
use Rattle.calls.specs.declared.Refused.TheVariants.{WrongMemory, Unsound, NoPlace, TooManyTicks}
use Rattle.calls.specs.Outcomes.{Outcome, wrong_memory, unsound, acts}

abbrev pub state_of : List ℕ → Place → State
state_of memory place = record { memory = memory; place = place }

-- The most ticks of a Run; 14: "n over 10,000"
abbrev pub most_ticks_of_run : ℕ
most_ticks_of_run = 10000

unfoldable pub run_outcome : Under → State → ℕ → Outcome
run_outcome u x n =
    first_of (Ok tt)
    (record { applies = wrong_memory u.limits x.memory; answer = Err WrongMemory }
    ∷ record { applies = unsound u; answer = Err Unsound }
    ∷ record { applies = not (is_place u.view x.place); answer = Err NoPlace }
    ∷ record { applies = ltb most_ticks_of_run n; answer = Err TooManyTicks }
    ∷ [])

-- n ticks, one after another.
unfoldable pub after_ticks : View → ℕ → State → State
after_ticks v zero x = x
after_ticks v (suc n) x = after_ticks v n (next v x)

-- Memory and place after a Run. "A refused Run returns the place it was given", the count with it.
unfoldable pub after_run : Under → State → ℕ → State
after_run u x n = acts (run_outcome u x n) (after_ticks u.view n x) x

-- The place after a Run that acts, or why it refuses.
unfoldable pub run_answer : Under → State → ℕ → Result Place Refused
run_answer u x n = result_and (run_outcome u x n) (Ok (after_run u x n).place)
