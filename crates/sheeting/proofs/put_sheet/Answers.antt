-- Each turn adds the line of one partition, of at most 24 bytes; the round's line ends the sheet.
use Rattle.std.proofs.Common.{◌≡◌, ◌<◌, length, get_or, ap, arith, add-one}
use Rattle.policy.specs.Limits.{single}
use Rattle.policy.specs.Record.{tables_of}
use Rattle.policy.proofs.Lawful.{lawful}
use Rattle.writing.proofs.Laws.Writer.{adds_none, adds_then, adds_filled, room_left}
use Rattle.sheet.proofs.Laws.Answer.{sheet_ok}
use Rattle.sheeting.specs.Lines.{partition_lines}
use Rattle.sheeting.proofs.Laws.Lines.{sheet_is, line_short, round_short, round_small, own_small, silence_small, sheet_short, rows_short, ticks_are, silence_are}
use Rattle.sheeting.proofs.put_sheet.Goals as goal

pub unwrap-sheet-requires : goal.unwrap-sheet-requires
unwrap-sheet-requires c = rw (c.sheet_of.ensures, sheet_ok single (tables_of c.args.policy.now) c.requires)

pub loop-p-init : goal.loop-p-init
unfolding partition_lines
loop-p-init c = adds_none _

pub loop-p-preserved : goal.loop-p-preserved
unfolding partition_lines
loop-p-preserved c =
    let t = tables_of c.args.policy.now in
    let p = c.loop-p.p in
    let e = sheet_is t c.requires c.sheet_of.ensures c.unwrap-sheet.ensures in
    rw (add-one, ← ticks_are t c.requires e p, ← silence_are t c.requires e p) (adds_then c.loop-p.invariant c.put_row.ensures)

pub bounds-sheet-p : goal.bounds-sheet-p
bounds-sheet-p c = omega (arith, (lawful single _ c.requires).few_partitions)

pub bounds-sheet-p-in-loop-p : goal.bounds-sheet-p-in-loop-p
bounds-sheet-p-in-loop-p c = omega (arith, (lawful single _ c.requires).few_partitions)

pub put_row-requires : goal.put_row-requires
put_row-requires c =
    let t = tables_of c.args.policy.now in
    let p = c.loop-p.p in
    let e = sheet_is t c.requires c.sheet_of.ensures c.unwrap-sheet.ensures in
    let few = (lawful single t c.requires).few_partitions in
    let ticks : get_or c.unwrap-sheet.result.ticks p 0 < 100000 = rw (ticks_are t c.requires e p) (own_small t c.requires p) in
    let silent : get_or c.unwrap-sheet.result.silence p 0 < 100000 = rw (silence_are t c.requires e p) (silence_small t c.requires p) in
    let rows = rows_short t c.requires p (omega arith) in
    let row = line_short p _ _ (omega arith) ticks silent in
    ((omega arith, (ticks, (silent, tt))), omega (arith, ap length c.new-writer.ensures.nothing_written.1, room_left c.loop-p.invariant))

pub round_ticks-requires : goal.round_ticks-requires
round_ticks-requires c = let w = lawful single _ c.requires in (w.few_slots, w.ticks_most)

pub put_row-requires-2 : goal.put_row-requires-2
put_row-requires-2 c =
    let t = tables_of c.args.policy.now in
    let few = (lawful single t c.requires).few_partitions in
    let small : c.round_ticks.result < 100000 = rw c.round_ticks.ensures (round_small t c.requires) in
    let rows = rows_short t c.requires c.loop-p.p (omega arith) in
    ((small, tt), omega (arith, ap length c.new-writer.ensures.nothing_written.1, room_left c.loop-p.invariant, round_short _ small))

pub returns : goal.returns
returns c =
    let t = tables_of c.args.policy.now in
    let end : c.loop-p.p ≡ t.partitions.count = omega arith in
    let rows = rw end at c.loop-p.invariant in
    let round = rw c.round_ticks.ensures at c.put_row-2.ensures in
    adds_filled 204 c.new-writer.ensures.nothing_written (adds_then rows round) (sheet_short t c.requires) (omega arith) c.len.ensures
