-- 02, S-1: the report, and 'the single question "can s reach t", which stops at the first chain found and always agrees with the report.
-- Refused: 15 if s or t isn't a segment, after 10; report empty, answer no.'
use Rattle.std.specs.Prelude.{ℕ, Bool, false, ◌||◌, List, [], ◌∷◌, replicate, Result, Ok, Err}
use Rattle.std.specs.Result.{result_unwrap_or}
use Rattle.policy.specs.declared.record.NoAnswer.{NoAnswer}
use Rattle.policy.specs.declared.record.NoAnswer.TheVariants.{Unsound, NoSegment}
use Rattle.policy.specs.Asked.{where_sound}
use Rattle.policy.specs.First.{first_of}
use Rattle.policy.specs.Range.{no_segment}
use Rattle.calls.specs.Under.{Under}
use Rattle.calls.specs.Outcomes.{unsound}
use Rattle.reach.specs.Via.{reaches}
use Rattle.reach.specs.Rows.{report_masks}

-- The report is one for all segments, so 15 is never its answer.
unfoldable pub reach_answer : Under → Result (List ℕ) NoAnswer
reach_answer u = where_sound u.sound (report_masks u.limits u.view)

unfoldable pub can_reach_answer : Under → ℕ → ℕ → Result Bool NoAnswer
can_reach_answer u s t =
    first_of (Ok (reaches u.view s t))
    (record { applies = unsound u; answer = Err Unsound }
    ∷ record { applies = no_segment u.view s || no_segment u.view t; answer = Err NoSegment }
    ∷ [])

-- "report empty": where it is refused, no bit in any mask
abbrev pub rows_shown : Under → List ℕ
rows_shown u = result_unwrap_or (reach_answer u) (replicate u.limits.segments 0)

-- "answer no", where it is refused
abbrev pub yes_shown : Under → ℕ → ℕ → Bool
yes_shown u s t = result_unwrap_or (can_reach_answer u s t) false
