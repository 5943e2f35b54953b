-- Each turn adds one line.
use Rattle.policy.specs.Below.{list_below}
use Rattle.writing.specs.Writer.{Adds}
use Rattle.reaching.specs.Report.{segment_lines}
use Rattle.reaching.proofs.Laws.Lines.{bit_row}
use Rattle.reaching.proofs.lines.put_lines.Given as goal

abbrev pub invariant-loop-t : goal.invariant-loop-t
invariant-loop-t l = Adds l.initial.writer (segment_lines 0 (list_below l.t (bit_row l.rows l.policy.segments))) l.writer
