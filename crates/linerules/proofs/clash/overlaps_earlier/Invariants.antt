-- No segment passed overlaps, and the first that does is found.
use Rattle.policy.specs.Clash.{overlaps}
use Rattle.policy.proofs.Laws.Loops.{Searched}
use Rattle.policy.specs.Record.{tables_of}
use Rattle.policy.specs.Sound.{first_segments}
use Rattle.policy.specs.Tables.{view_of}
use Rattle.linerules.proofs.clash.overlaps_earlier.Given as goal

abbrev pub invariant-loop-i : goal.invariant-loop-i
invariant-loop-i l = Searched l.segments (overlaps (first_segments (view_of (tables_of l.policy)) l.segments) l.base l.size) l.i
