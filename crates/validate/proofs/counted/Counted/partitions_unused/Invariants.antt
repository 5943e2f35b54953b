-- The invariant: all are 0 where what was read is 0 and what is left is.
use Rattle.validate.proofs.Laws.Zeros.{ZeroTo}
use Rattle.validate.proofs.counted.Counted.partitions_unused.Given as goal

abbrev pub invariant-loop-p : goal.invariant-loop-p
invariant-loop-p l = let p = l.policy in ZeroTo p.code p.save p.reads p.writes p.partitions l.p l.used
