-- The loop goes on to the last partition; the invariant: the save segments and the rights before p are gathered.
use Rattle.validate.proofs.Laws.Rights.{Gathered}
use Rattle.validate.proofs.counted.Counted.rights_good.Given as goal

abbrev pub invariant-loop-p : goal.invariant-loop-p
invariant-loop-p l = let p = l.policy in Gathered p.segments p.partitions p.save p.reads p.writes l.p l.saves l.held
