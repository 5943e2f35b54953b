-- Each turn adds the row of one segment.
use Rattle.policy.specs.Record.{tables_of}
use Rattle.policy.specs.Tables.{view_of}
use Rattle.report.specs.Report.{segment_rows}
use Rattle.writing.specs.Writer.{Adds}
use Rattle.report.proofs.write.put_segments.Given as goal

abbrev pub invariant-loop-s : goal.invariant-loop-s
invariant-loop-s l = Adds l.initial.out (segment_rows (view_of (tables_of l.policy)) l.s) l.out
