-- The report on a text that is refused, and on one that is accepted.
use Prim.Native.Nat.{ℕ}
use mathlib.Core.Path.{◌≡◌}
use mathlib.Core.Bool.{true, false}
use mathlib.Core.List.{List}
use Rattle.policy.specs.Limits.{single}
use Rattle.policy.specs.Tables.{view_of}
use Rattle.policy.specs.Refusals.{is_accepted}
use Rattle.policy.specs.Read.{Answer, read_of}
use Rattle.report.specs.Report.{refused_row}
use Rattle.reach.specs.Rows.{report_of}
use Rattle.reaching.specs.Report.{segment_lines, reach_lines, reach_report_of}

module _ (text : List ℕ) {a : Answer} (read : a ≡ read_of single text) where
  pub report_refused : is_accepted a.refusal ≡ false → reach_report_of single text ≡ refused_row a.refusal
  unfolding reach_report_of reach_lines
  report_refused h = rw (← read, h)

  pub report_accepted : is_accepted a.refusal ≡ true → reach_report_of single text ≡ segment_lines 0 (report_of (view_of a.tables))
  unfolding reach_report_of reach_lines
  report_accepted h = rw (← read, h)
