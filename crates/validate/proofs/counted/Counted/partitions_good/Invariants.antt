-- The loop stops at the first partition that fails; the invariant: each before i passes.
use Rattle.policy.specs.Limits.{single}
use Rattle.policy.specs.Record.{tables_of}
use Rattle.policy.specs.Tables.{view_of}
use Rattle.policy.specs.Sound.{good_partition}
use Rattle.policy.proofs.Laws.Loops.{Tested}
use Rattle.validate.proofs.counted.Counted.partitions_good.Given as goal

abbrev pub invariant-loop-i : goal.invariant-loop-i
invariant-loop-i l = let p = l.self.policy.now in Tested p.partitions (good_partition single (view_of (tables_of p))) l.i
