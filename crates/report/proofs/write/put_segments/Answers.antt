-- Each turn adds the row of one segment, of at most 19 bytes.
use Rattle.std.proofs.Common.{◌<◌, arith, add-one}
use Rattle.policy.specs.Tables.{view_of}
use Rattle.policy.specs.Record.{tables_of}
use Rattle.report.specs.Report.{segment_row, segment_rows}
use Rattle.writing.proofs.Laws.Writer.{adds_none, adds_then, room_left}
use Rattle.report.proofs.Laws.Rows.{mask_small, segment_length, segments_length}
use Rattle.report.proofs.write.put_segments.Goals as goal

pub loop-s-init : goal.loop-s-init
unfolding segment_rows
loop-s-init c = adds_none _

pub put_row-requires : goal.put_row-requires
put_row-requires c =
    let v = view_of (tables_of c.args.policy.now) in
    let s = c.loop-s.s in
    let few = c.requires.0.few_partitions in
    let reads : c.users_of-reads.result < 256 = rw c.users_of-reads.ensures (mask_small _ _ few) in
    let writes : c.users_of-writes.result < 256 = rw c.users_of-writes.ensures (mask_small _ _ few) in
    let row = segment_length s _ _ (omega arith) reads writes in
    let rows = segments_length v few s (omega arith) in
    ((omega arith, (omega arith, (omega arith, tt))), omega (arith, room_left c.loop-s.invariant))

pub loop-s-preserved : goal.loop-s-preserved
unfolding segment_rows segment_row
loop-s-preserved c =
    rw add-one
    (adds_then c.loop-s.invariant (rw (c.users_of-reads.ensures, c.users_of-writes.ensures) at c.put_row.ensures))
