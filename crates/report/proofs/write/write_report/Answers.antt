-- Either report, by what reading answered.
use borrow.Author.Rules.{rules}
use native.Mathlib.Omega.{arith}
use Rattle.report.specs.Report.{report_with}
use Rattle.report.proofs.write.write_report.Goals as goal

pub put_accepted-requires : goal.put_accepted-requires
put_accepted-requires c = rw c.in-Ok.is at c.requires.counts

pub put_refused-requires : goal.put_refused-requires
put_refused-requires c = (rw c.in-Err.is at c.requires.line_short, search rules)

pub returns-in-Ok : goal.returns-in-Ok
unfolding report_with
returns-in-Ok c = rw c.in-Ok.is c.put_accepted.ensures

pub returns-in-Err : goal.returns-in-Err
unfolding report_with
returns-in-Err c =
    let row = c.put_refused.ensures in
    rw c.in-Err.is (row.0, omega (arith, row.1), row.2)
