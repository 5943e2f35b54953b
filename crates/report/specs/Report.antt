-- 01, "The demonstration head": what policycheck writes.
use Rattle.std.specs.Prelude.{ℕ, zero, suc, cond, List, [], ◌∷◌, ◌++◌}
use Rattle.bits.specs.Masks.{mask_of}
use Rattle.text.specs.Bytes.{bytes_of}
use Rattle.writing.specs.Row.{numbers}
use Rattle.policy.specs.Limits.{Limits}
use Rattle.policy.specs.View.{View}
use Rattle.policy.specs.Access.{readable, writable}
use Rattle.policy.specs.Schedule.{round_ticks}
use Rattle.policy.specs.Tables.{view_of}
use Rattle.policy.specs.Refusals.{Verdict, number_of, line_number_of, is_accepted}
use Rattle.policy.specs.Read.{Answer, read_of}

-- "the masks of partitions p with the segment in R(p) and in W(p), bit p worth 2 to the power p"
abbrev pub read_mask : View → ℕ → ℕ
read_mask v s = mask_of v.partitions (λ p. readable v p s)

abbrev pub write_mask : View → ℕ → ℕ
write_mask v s = mask_of v.partitions (λ p. writable v p s)

-- "Then id, and the masks"
unfoldable pub segment_row : View → ℕ → List ℕ
segment_row v s = bytes_of "segment" ++ numbers (s ∷ read_mask v s ∷ write_mask v s ∷ [])

unfoldable pub segment_rows : View → ℕ → List ℕ
segment_rows v zero = []
segment_rows v (suc s) = segment_rows v s ++ segment_row v s

-- "First line: partitions, segments, slots, ticks in one round."
unfoldable pub accepted_row : View → List ℕ
accepted_row v = bytes_of "accepted" ++ numbers (v.partitions ∷ v.segments ∷ v.slots ∷ round_ticks v ∷ [])

-- "A refused text gives one line: refused, number, line."
abbrev pub refused_with : ℕ → ℕ → List ℕ
refused_with number line = bytes_of "refused" ++ numbers (number ∷ line ∷ [])

unfoldable pub refused_row : Verdict → List ℕ
refused_row refusal = refused_with (number_of refusal) (line_number_of refusal)

abbrev pub accepted_report : View → List ℕ
accepted_report v = accepted_row v ++ segment_rows v v.segments

-- Of a refusal and a view, whatever record gives it.
unfoldable pub report_with : Verdict → View → List ℕ
report_with refusal v = cond (is_accepted refusal) (accepted_report v) (refused_row refusal)

abbrev pub report_of_reading : Answer → List ℕ
report_of_reading a = report_with a.refusal (view_of a.tables)

unfoldable pub report_of : Limits → List ℕ → List ℕ
report_of limits text = report_of_reading (read_of limits text)
