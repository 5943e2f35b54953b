-- 02, S-1: "Refused: 15 if s or t isn't a segment, after 10"; S-7: "Refused: 10". The number of each answer to a question about a policy.
use Rattle.std.specs.Prelude.{ℕ, Bool, cond, Result, Ok, Err}
use Rattle.policy.specs.declared.record.NoAnswer.{NoAnswer}
use Rattle.policy.specs.declared.record.NoAnswer.TheVariants.{Unsound, NoSegment}

abbrev pub no_answer_number : NoAnswer → ℕ
no_answer_number Unsound = 10
no_answer_number NoSegment = 15

abbrev pub asked_number : {A : Type 0} → Result A NoAnswer → ℕ
asked_number (Ok answer) = 0
asked_number (Err why) = no_answer_number why

-- "Refused: 10", and nothing else is.
abbrev pub where_sound : {A : Type 0} → Bool → A → Result A NoAnswer
where_sound sound answer = cond sound (Ok answer) (Err Unsound)
