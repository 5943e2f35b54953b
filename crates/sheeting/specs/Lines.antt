-- What policysheet writes of a text: of an accepted one a line for each partition with its ticks and its longest silence, then the ticks of
-- one round; of a refused one policycheck's line.
use Rattle.std.specs.Prelude.{ℕ, zero, suc, cond, List, [], ◌∷◌, ◌++◌}
use Rattle.text.specs.Bytes.{bytes_of}
use Rattle.policy.specs.Limits.{Limits}
use Rattle.policy.specs.View.{View}
use Rattle.policy.specs.Tables.{view_of}
use Rattle.policy.specs.Refusals.{is_accepted}
use Rattle.policy.specs.Read.{Answer, read_of}
use Rattle.policy.specs.Schedule.{own_ticks, round_ticks, silence}
use Rattle.writing.specs.Row.{numbers}
use Rattle.report.specs.Report.{refused_row}

abbrev pub partition_line : ℕ → ℕ → ℕ → List ℕ
partition_line p ticks silent = bytes_of "partition" ++ numbers (p ∷ ticks ∷ silent ∷ [])

-- Of the first partitions, in ascending order.
unfoldable pub partition_lines : (ℕ → ℕ) → (ℕ → ℕ) → ℕ → List ℕ
partition_lines ticks silent zero = []
partition_lines ticks silent (suc p) = partition_lines ticks silent p ++ partition_line p (ticks p) (silent p)

abbrev pub round_line : ℕ → List ℕ
round_line ticks = bytes_of "round" ++ numbers (ticks ∷ [])

abbrev pub sheet_of : View → List ℕ
sheet_of v = partition_lines (own_ticks v) (silence v) v.partitions ++ round_line (round_ticks v)

unfoldable pub sheet_lines : Answer → List ℕ
sheet_lines a = cond (is_accepted a.refusal) (sheet_of (view_of a.tables)) (refused_row a.refusal)

unfoldable pub sheet_report_of : Limits → List ℕ → List ℕ
sheet_report_of limits text = sheet_lines (read_of limits text)
