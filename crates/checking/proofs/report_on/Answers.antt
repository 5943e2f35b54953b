-- Reading a text answers within the limits of the report.
use Rattle.report.specs.Report.{report_of}
use Rattle.checking.proofs.Laws.Readings.{reportable}
use Rattle.checking.proofs.report_on.Goals as goal

pub write_report-requires : goal.write_report-requires
write_report-requires c = rw c.read-reading.ensures (reportable _)

pub returns : goal.returns
unfolding report_of
returns c = rw (← c.read-reading.ensures) c.write_report.ensures
