-- What policyreach writes of a text: of an accepted one a row for each segment, with all segments that reach it; of a refused one
-- policycheck's line.
use Rattle.std.specs.Prelude.{ℕ, suc, cond, List, [], ◌∷◌, ◌++◌}
use Rattle.text.specs.Bytes.{bytes_of}
use Rattle.policy.specs.Limits.{Limits}
use Rattle.policy.specs.Tables.{view_of}
use Rattle.policy.specs.Refusals.{is_accepted}
use Rattle.policy.specs.Read.{Answer, read_of}
use Rattle.writing.specs.Row.{numbers}
use Rattle.report.specs.Report.{refused_row}
use Rattle.reach.specs.Rows.{report_of}

unfoldable pub segment_line : ℕ → List ℕ → List ℕ
segment_line t row = bytes_of "segment" ++ numbers (t ∷ row)

-- The rows of segment t and of those after it.
unfoldable pub segment_lines : ℕ → List (List ℕ) → List ℕ
segment_lines t [] = []
segment_lines t (row ∷ rows) = segment_line t row ++ segment_lines (suc t) rows

unfoldable pub reach_lines : Answer → List ℕ
reach_lines a = cond (is_accepted a.refusal) (segment_lines 0 (report_of (view_of a.tables))) (refused_row a.refusal)

unfoldable pub reach_report_of : Limits → List ℕ → List ℕ
reach_report_of limits text = reach_lines (read_of limits text)
