-- Each turn adds the line of one partition.
use Rattle.policy.specs.Record.{tables_of}
use Rattle.policy.specs.Schedule.{own_ticks, silence}
use Rattle.policy.specs.Tables.{view_of}
use Rattle.writing.specs.Writer.{Adds}
use Rattle.sheeting.specs.Lines.{partition_lines}
use Rattle.sheeting.proofs.put_sheet.Given as goal

abbrev pub invariant-loop-p : goal.invariant-loop-p
invariant-loop-p l =
    let v = view_of (tables_of l.policy) in
    Adds l.initial.writer (partition_lines (own_ticks v) (silence v) l.p) l.writer
