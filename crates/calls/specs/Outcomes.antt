-- 01, "The four operations and when they say no": the number of each answer, and the tests of the refusals that all
-- three share.
use Rattle.std.specs.Prelude.{ℕ, Bool, not, cond, List, length, eqb, Ok, Err, is_ok, Result}
use Rattle.policy.specs.Limits.{Limits}
use Rattle.calls.specs.Under.{Under}
use Rattle.calls.specs.declared.Refused.{Refused}
use Rattle.calls.specs.declared.Refused.TheVariants.{WrongMemory, Unsound, NoPartition, NoLine, NoPlace, TooManyTicks}

abbrev pub refused_number : Refused → ℕ
refused_number WrongMemory = 9
refused_number Unsound = 10
refused_number NoPartition = 11
refused_number NoLine = 12
refused_number NoPlace = 13
refused_number TooManyTicks = 14

-- "These three return number 0 when they act."
abbrev pub outcome_number : {A : Type 0} → Result A Refused → ℕ
outcome_number (Ok acted) = 0
outcome_number (Err refused) = refused_number refused

-- That an operation acts, or why it refuses.
abbrev pub Outcome : Type 0
Outcome = Result Unit Refused

-- "9: memory isn't 16,384 bytes"
abbrev pub wrong_memory : Limits → List ℕ → Bool
wrong_memory limits memory = not (eqb (length memory) limits.memory)

-- "10: the record is that of no accepted text"
abbrev pub unsound : Under → Bool
unsound u = not u.sound

-- "When they refuse they return the number and change no byte of memory."
abbrev pub acts {ℓ} : {A : Type ℓ} → Outcome → A → A → A
acts outcome acted kept = cond (is_ok outcome) acted kept
