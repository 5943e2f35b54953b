-- What policyreach writes when it is asked whether one segment can reach another.
use Rattle.std.specs.Prelude.{ℕ, Bool, true, false, cond, List, [], ◌∷◌, ◌++◌, eqb, length, Option, Some, None, Result, Ok, Err}
use Rattle.text.specs.declared.line.Cursor.{Cursor}
use Rattle.text.specs.Bytes.{bytes_of}
use Rattle.text.specs.Cut.{tab, line_end}
use Rattle.text.specs.Readers.{Found, inner_read, last_read}
use Rattle.policy.specs.declared.record.NoAnswer.{NoAnswer}
use Rattle.policy.specs.Asked.{no_answer_number}
use Rattle.policy.specs.Limits.{Limits}
use Rattle.policy.specs.Refusals.{is_accepted}
use Rattle.policy.specs.Read.{Answer, read_of}
use Rattle.calls.specs.Under.{under}
use Rattle.writing.specs.Row.{field}
use Rattle.report.specs.Report.{refused_row, refused_with}
use Rattle.reach.specs.Answers.{can_reach_answer}
use Rattle.reaching.specs.declared.words.Words.{Words}

-- The program's words are read as the fields of a policy text's line: a tab behind the first, a line end behind the second.
abbrev pub first_word : List ℕ → Found ℕ
first_word words = inner_read words (record { at = 0; line = 0 })

abbrev pub next_word : List ℕ → Cursor → Found ℕ
next_word words c = last_read words c

abbrev pub both_words : Option ℕ → Option ℕ → Option Words
both_words (Some s) (Some t) = Some (record { from = s; to = t })
both_words (Some s) None = None
both_words None t = None

-- Two numbers, and nothing after them.
abbrev pub two_words : List ℕ → Found ℕ → Found ℕ → Option Words
two_words words a b = cond (eqb b.next.at (length words)) (both_words a.said b.said) None

unfoldable pub words_of : List ℕ → Option Words
words_of words = two_words words (first_word words) (next_word words (first_word words).next)

abbrev pub yes_end : Bool → List ℕ
yes_end true = tab ∷ bytes_of "yes" ++ line_end ∷ []
yes_end false = tab ∷ bytes_of "no" ++ line_end ∷ []

unfoldable pub reach_line : ℕ → ℕ → Bool → List ℕ
reach_line s t reached = bytes_of "reach" ++ field s ++ field t ++ yes_end reached

-- 02, S-1: "Refused: 15 if s or t isn't a segment": as a refused text's line has it, with line 0
unfoldable pub answer_line : ℕ → ℕ → Result Bool NoAnswer → List ℕ
answer_line s t (Ok reached) = reach_line s t reached
answer_line s t (Err why) = refused_with (no_answer_number why) 0

-- Of an accepted text the question's answer, of a refused one policycheck's line.
unfoldable pub question_line : Limits → ℕ → ℕ → Answer → List ℕ
question_line limits s t a =
    cond (is_accepted a.refusal) (answer_line s t (can_reach_answer (under limits a.tables) s t)) (refused_row a.refusal)

-- Of other words a line that says how to call it.
abbrev pub usage : List ℕ
usage = bytes_of "usage: policyreach [FROM TO] < POLICY" ++ line_end ∷ []

abbrev pub words_line : Limits → List ℕ → Option Words → List ℕ
words_line limits text (Some w) = question_line limits w.from w.to (read_of limits text)
words_line limits text None = usage

unfoldable pub question_of : Limits → List ℕ → List ℕ → List ℕ
question_of limits text words = words_line limits text (words_of words)
