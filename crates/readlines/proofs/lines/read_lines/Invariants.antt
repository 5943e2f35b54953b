-- Before each line, what is left to read gives the answer of the whole text (Reached); the text grows shorter with each line.
use Prim.Native.Nat.{◌-◌}
use lib.ListN.{length}
use Rattle.linerules.specs.Drafted.{draft_of}
use Rattle.readlines.proofs.Laws.Run.{Reached}
use Rattle.readlines.proofs.lines.read_lines.Given as goal

abbrev pub invariant-loop-c : goal.invariant-loop-c
invariant-loop-c l = Reached l.text (draft_of l.draft) l.c.at l.c.line

abbrev pub decreases-loop-c : goal.decreases-loop-c
decreases-loop-c l = length l.text - l.c.at
