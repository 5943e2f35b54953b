-- Where the save bytes and the code stand is looked up in the record.
use Rattle.std.proofs.Common.{◌∙◌}
use Rattle.kernel.proofs.Laws.Ticks.{by_numbers}
use Rattle.kernel.proofs.stretch.stretch.Goals as goal

pub returns : goal.returns
returns c =
    let done = rw (
      c.from.ensures,
      c.from-2.ensures,
      c.from-3.ensures,
      c.from-4.ensures,
      c.from-5.ensures,
      c.from-save.ensures,
      c.from-code.ensures,
    ) at c.stretch_at.ensures in
    done ∙ by_numbers _ _ _ _ _ _
