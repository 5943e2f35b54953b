-- The row of the record's counts, and of the round that was summed.
use native.Mathlib.Omega.{arith}
use Rattle.policy.specs.Tables.{view_of}
use Rattle.policy.specs.Record.{tables_of}
use Rattle.report.specs.Report.{accepted_row}
use Rattle.report.proofs.Laws.Rows.{round_small, accepted_length}
use Rattle.report.proofs.write.put_counts.Goals as goal

pub put_row-requires : goal.put_row-requires
unfolding accepted_row
put_row-requires c =
    let v = view_of (tables_of c.args.policy.now) in
    let k = c.requires.0 in
    rw c.round_ticks-ticks.ensures
    ((omega (arith, k.few_partitions), (omega (arith, k.few_segments), (omega (arith, k.few_slots), (round_small v k, tt)))), omega (arith, accepted_length v k))

pub returns : goal.returns
unfolding accepted_row
returns c = rw c.round_ticks-ticks.ensures at c.put_row.ensures
