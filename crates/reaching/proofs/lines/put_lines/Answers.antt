-- Each turn adds one line, of at most 107 bytes; the lines of the masks are the report's.
use Rattle.std.proofs.Common.{◌≡◌, length, replicate, ap, sym, ◌∙◌, arith, add-one}
use Rattle.std.specs.Result.{result_unwrap_or}
use Rattle.policy.specs.Below.{list_below}
use Rattle.policy.specs.Limits.{single}
use Rattle.policy.specs.Record.{tables_of}
use Rattle.policy.proofs.Lawful.{lawful}
use Rattle.calls.specs.Under.{under}
use Rattle.reach.specs.Answers.{rows_shown}
use Rattle.reach.proofs.Agrees.{reach_ok, masks_report}
use Rattle.reaching.specs.Report.{segment_lines}
use Rattle.writing.proofs.Laws.Writer.{adds_none, adds_then, adds_filled, room_left}
use Rattle.reaching.proofs.Laws.Lines.{line_more, rows_short}
use Rattle.reaching.proofs.lines.put_lines.Goals as goal

pub unwrap-rows-requires : goal.unwrap-rows-requires
unwrap-rows-requires c = rw (c.reach.ensures, reach_ok single (tables_of c.args.policy.now) c.requires)

pub loop-t-init : goal.loop-t-init
unfolding list_below segment_lines
loop-t-init c = adds_none _

pub bounds-rows-t : goal.bounds-rows-t
bounds-rows-t c = omega (arith, (lawful single _ c.requires).few_segments)

pub put_line-requires : goal.put_line-requires
put_line-requires c =
    let few = (lawful single _ c.requires).few_segments in
    let most = rows_short c.unwrap-rows.result c.args.policy.now.segments c.loop-t.t few (omega arith) in
    (few, omega arith, omega (arith, ap length c.new-writer.ensures.nothing_written.1, room_left c.loop-t.invariant))

pub loop-t-preserved : goal.loop-t-preserved
loop-t-preserved c = rw (add-one, line_more) (adds_then c.loop-t.invariant c.put_line.ensures)

pub returns : goal.returns
returns c =
    let t = tables_of c.args.policy.now in
    let n = c.args.policy.now.segments in
    let end : c.loop-t.t ≡ n = omega arith in
    let few = (lawful single t c.requires).few_segments in
    let short = rows_short c.unwrap-rows.result n n few few in
    let rows : rows_shown (under single t) ≡ c.unwrap-rows.result =
    ap (λ a. result_unwrap_or a (replicate 32 0)) (sym c.reach.ensures ∙ c.unwrap-rows.ensures) in
    rw (← masks_report single t c.requires, rows)
    (adds_filled 3424 c.new-writer.ensures.nothing_written (rw end at c.loop-t.invariant) (omega arith) (omega arith) c.len.ensures)
