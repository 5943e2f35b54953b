-- 01: "Start. 9 .. 10 .. Else all save segments become zero, other bytes stay, and the place is slot 0 with 0 used." 02,
-- S-8: the count, "which Start, refused too, sets to 0".
use Rattle.std.specs.Prelude.{ℕ, zero, suc, List, [], ◌∷◌, replicate, Ok, Err, Result}
use Rattle.std.specs.Result.{result_and}
use Rattle.policy.specs.First.{first_of}
use Rattle.policy.specs.View.{View}
use Rattle.machine.specs.Bytes.{with_part}
use Rattle.machine.specs.Layout.{layout}
use Rattle.machine.specs.declared.Place.{Place}
use Rattle.machine.specs.Place.{place_of}
use Rattle.calls.specs.Under.{Under}
use Rattle.calls.specs.declared.Refused.{Refused}
use Rattle.calls.specs.declared.Refused.TheVariants.{WrongMemory, Unsound}
use Rattle.calls.specs.Outcomes.{Outcome, wrong_memory, unsound, acts}

unfoldable pub start_outcome : Under → List ℕ → Outcome
start_outcome u memory =
    first_of (Ok tt)
    (record { applies = wrong_memory u.limits memory; answer = Err WrongMemory }
    ∷ record { applies = unsound u; answer = Err Unsound }
    ∷ [])

-- The save segments of the first n partitions become zero.
unfoldable pub cleared : View → ℕ → List ℕ → List ℕ
cleared v zero memory = memory
cleared v (suc n) memory =
    with_part (cleared v n memory) (v.base (v.save n)) layout.size (replicate layout.size 0)

-- Memory after a Start.
unfoldable pub after_start : Under → List ℕ → List ℕ
after_start u memory =
    acts (start_outcome u memory) (cleared u.view u.view.partitions memory) memory

-- "the place is slot 0 with 0 used"; "a refused Start returns slot 0 with 0 used" too. The count is 0 after both.
abbrev pub start_place : Place
start_place = place_of 0 0 0

-- The place after a Start that acts, or why it refuses.
unfoldable pub start_answer : Under → List ℕ → Result Place Refused
start_answer u memory = result_and (start_outcome u memory) (Ok start_place)
