-- Each turn adds one source, where the row has it.
use Rattle.bits.specs.Masks.{has}
use Rattle.reach.specs.Rows.{those_below}
use Rattle.writing.specs.Row.{fields}
use Rattle.writing.specs.Writer.{Adds}
use Rattle.reaching.proofs.lines.put_line.Given as goal

abbrev pub invariant-loop-s : goal.invariant-loop-s
invariant-loop-s l = Adds l.initial.out (fields (those_below l.s (has l.row))) l.out
