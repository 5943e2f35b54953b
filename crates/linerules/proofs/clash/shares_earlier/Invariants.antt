-- No partition passed shares, and the first that does is found.
use Rattle.policy.specs.Clash.{shares}
use Rattle.policy.proofs.Laws.Loops.{Searched}
use Rattle.policy.specs.Record.{tables_of}
use Rattle.policy.specs.Sound.{first_partitions}
use Rattle.policy.specs.Tables.{view_of}
use Rattle.linerules.proofs.clash.shares_earlier.Given as goal

abbrev pub invariant-loop-i : goal.invariant-loop-i
invariant-loop-i l = Searched l.partitions (shares (first_partitions (view_of (tables_of l.policy)) l.partitions) l.code l.save) l.i
