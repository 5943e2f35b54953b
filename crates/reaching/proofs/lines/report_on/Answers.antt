-- A refused text's one line; of an accepted one the lines of its record, which is sound.
use mathlib.Core.Path.{refl}
use native.Mathlib.Omega.{arith}
use Rattle.report.proofs.Laws.Reading.{named_short, sound_read}
use Rattle.reaching.proofs.Laws.Reading.{report_refused, report_accepted}
use Rattle.reaching.proofs.lines.report_on.Goals as goal

pub put_lines-requires : goal.put_lines-requires
put_lines-requires c = sound_read _ c.in-Ok.ensures refl

pub returns-in-Ok : goal.returns-in-Ok
returns-in-Ok c = rw (report_accepted _ c.in-Ok.ensures refl) c.put_lines.ensures

pub put_refused-requires : goal.put_refused-requires
put_refused-requires c = (named_short _ c.in-Err.ensures, omega arith)

pub returns-in-Err : goal.returns-in-Err
returns-in-Err c =
    let row = c.put_refused.ensures in
    rw (report_refused _ c.in-Err.ensures refl) (row.0, omega (arith, row.1), row.2)
