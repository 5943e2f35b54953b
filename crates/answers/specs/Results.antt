-- The answers as C has them: numbers, with the record, the place, the masks or the sheet beside them.
use Rattle.std.specs.Prelude.{ℕ, ◌≡◌, cond, replicate, Result}
use Rattle.std.specs.Result.{result_unwrap_or}
use Rattle.policy.specs.Refusals.{number_of, line_number_of}
use Rattle.policy.specs.Asked.{asked_number}
use Rattle.policy.specs.Read.{Answer}
use Rattle.policy.specs.Record.{tables_of}
use Rattle.machine.specs.declared.Place.{Place}
use Rattle.calls.specs.declared.Refused.{Refused}
use Rattle.calls.specs.Outcomes.{outcome_number}
use Rattle.calls.specs.Under.{Under}
use Rattle.reach.specs.Answers.{reach_answer, can_reach_answer, rows_shown, yes_shown}
use Rattle.sheet.specs.declared.Sheet.{Sheet}
use Rattle.sheet.specs.Answer.{sheet_answer}
use Rattle.answers.specs.declared.results.ReachResult.{ReachResult}
use Rattle.answers.specs.declared.results.ReadResult.{ReadResult}
use Rattle.answers.specs.declared.results.QuestionResult.{QuestionResult}
use Rattle.answers.specs.declared.results.RunResult.{RunResult}
use Rattle.answers.specs.declared.results.SheetResult.{SheetResult}

-- The number, the line and the record of an answer.
pub record Tells (r : ReadResult) (a : Answer) : Type 0 where
  pub number : r.number ≡ number_of a.refusal
  pub line : r.line ≡ line_number_of a.refusal
  pub policy : tables_of r.policy ≡ a.tables

-- With the place that a refused Start or Run returns.
abbrev pub run_result : Place → Result Place Refused → RunResult
run_result kept answer = record { number = outcome_number answer; place = result_unwrap_or answer kept }

-- "Refused: .. report empty, answer no."
abbrev pub reach_result : Under → ReachResult
reach_result u = record { number = asked_number (reach_answer u); sources = rows_shown u }

abbrev pub question_result : Under → ℕ → ℕ → QuestionResult
question_result u from to =
    record { number = asked_number (can_reach_answer u from to); yes = cond (yes_shown u from to) 1 0 }

-- "Refused: 10, all zeros."
abbrev pub sheet_shown : Under → Sheet
sheet_shown u =
    result_unwrap_or (sheet_answer u)
    (record {
      ticks = replicate u.limits.partitions 0;
      silence = replicate u.limits.partitions 0;
    })

abbrev pub sheet_result : Under → SheetResult
sheet_result u =
    record { number = asked_number (sheet_answer u); ticks = (sheet_shown u).ticks; silence = (sheet_shown u).silence }
