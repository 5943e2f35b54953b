-- The first row, and then those of the segments.
use Rattle.std.proofs.Common.{length, ap, arith}
use Rattle.writing.proofs.Laws.Writer.{adds_then, adds_filled, room_left}
use Rattle.report.proofs.Laws.Rows.{accepted_length, accepted_fits}
use Rattle.report.proofs.write.put_accepted.Goals as goal

pub put_segments-requires : goal.put_segments-requires
put_segments-requires c = (c.requires, omega (arith, room_left c.put_counts.ensures, accepted_length _ c.requires, ap length c.new-writer.ensures.nothing_written.1))

pub returns : goal.returns
returns c =
    let rows = adds_then c.put_counts.ensures c.put_segments.ensures in
    adds_filled 640 c.new-writer.ensures.nothing_written rows (accepted_fits _ c.requires) (omega arith) c.len.ensures
