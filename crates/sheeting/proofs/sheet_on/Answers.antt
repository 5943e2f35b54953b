-- A refused text's one line; of an accepted one the sheet of its record, which is sound.
use mathlib.Core.Path.{refl}
use native.Mathlib.Omega.{arith}
use Rattle.report.proofs.Laws.Reading.{named_short, sound_read}
use Rattle.sheeting.proofs.Laws.Lines.{sheet_refused, sheet_accepted}
use Rattle.sheeting.proofs.sheet_on.Goals as goal

pub put_sheet-requires : goal.put_sheet-requires
put_sheet-requires c = sound_read _ c.in-Ok.ensures refl

pub returns-in-Ok : goal.returns-in-Ok
returns-in-Ok c = rw (sheet_accepted _ c.in-Ok.ensures refl) c.put_sheet.ensures

pub put_refused-requires : goal.put_refused-requires
put_refused-requires c = (named_short _ c.in-Err.ensures, omega arith)

pub returns-in-Err : goal.returns-in-Err
returns-in-Err c =
    let row = c.put_refused.ensures in
    rw (sheet_refused _ c.in-Err.ensures refl) (row.0, omega (arith, row.1), row.2)
