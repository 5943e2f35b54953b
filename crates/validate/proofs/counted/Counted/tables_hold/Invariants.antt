-- The loop goes on to the last place; the invariant: nothing strays where all holds before i.
use Rattle.validate.proofs.Laws.Tables.{Strays}
use Rattle.validate.proofs.counted.Counted.tables_hold.Given as goal

abbrev pub invariant-loop-i : goal.invariant-loop-i
invariant-loop-i l =
    let p = l.policy in
    Strays p.base p.size p.owner p.ticks p.segments p.partitions p.slots l.i l.stray
