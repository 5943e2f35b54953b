-- Each turn adds one number of the row.
use Rattle.std.proofs.Common.{take}
use Rattle.writing.specs.Row.{fields}
use Rattle.writing.specs.Writer.{Adds}
use Rattle.writing.proofs.writer.Writer.put_row.Given as goal

abbrev pub invariant-loop-n : goal.invariant-loop-n
invariant-loop-n l = Adds l.initial.self (fields (take l.n-index l.row)) l.self
