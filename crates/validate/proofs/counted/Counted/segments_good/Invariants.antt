-- The loop stops at the first segment that fails; the invariant: each before i passes, and they have ended.
use Rattle.policy.specs.Limits.{single}
use Rattle.policy.specs.Record.{tables_of}
use Rattle.policy.specs.Tables.{view_of}
use Rattle.policy.specs.Sound.{good_segment}
use Rattle.linerules.specs.Parts.{EndedBy}
use Rattle.policy.proofs.Laws.Loops.{Tested}
use Rattle.validate.proofs.counted.Counted.segments_good.Given as goal

abbrev pub invariant-loop-i : goal.invariant-loop-i
invariant-loop-i l =
    Tested l.self.policy.now.segments (good_segment single (view_of (tables_of l.self.policy.now))) l.i × EndedBy l.base l.size l.i l.end
