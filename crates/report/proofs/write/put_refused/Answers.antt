-- The row of the refusal's number and line.
use Rattle.std.proofs.Common.{length, ap, arith, rules}
use Rattle.std.specs.Prelude.{Err}
use Rattle.policy.specs.Refusals.{Verdict}
use Rattle.report.specs.Report.{refused_row}
use Rattle.writing.proofs.Laws.Writer.{adds_filled}
use Rattle.report.proofs.Laws.Rows.{number_small, refused_length}
use Rattle.report.proofs.write.put_refused.Goals as goal

pub put_row-requires : goal.put_row-requires
put_row-requires c =
    let r : Verdict = Err c.args.refusal in
    rw (c.number.ensures, c.line.ensures)
    ((omega (arith, number_small r), (c.requires.0, tt)), omega (arith, refused_length _ _ (number_small r) c.requires.0, c.requires.1, ap length c.new-writer.ensures.nothing_written.1))

pub returns : goal.returns
unfolding refused_row
returns c =
    let r : Verdict = Err c.args.refusal in
    let row = rw (c.number.ensures, c.line.ensures) at c.put_row.ensures in
    let fits = refused_length _ _ (number_small r) c.requires.0 in
    let all = adds_filled 17 c.new-writer.ensures.nothing_written row fits c.requires.1 c.len.ensures in
    (all.0, all.1, search (rules, all.2))
