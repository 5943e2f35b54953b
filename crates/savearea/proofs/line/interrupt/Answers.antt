-- The fields are read before any is put, the line taken is the lowest of those due, and the puts are in the order of the definition.
use Rattle.machine.specs.Local.{entered, interrupted}
use Rattle.savearea.proofs.line.interrupt.Goals as goal

pub take_line-taken-requires : goal.take_line-taken-requires
take_line-taken-requires c = rw (c.entry_or.ensures, c.entry_or-2.ensures) c.requires.0

pub returns : goal.returns
unfolding interrupted entered
returns c =
    let state = c in
    let inside = state in
    let counter = inside in
    let return = counter in
    let line = return in
    let pended = line in
    let taken = pended in
    let enabled = taken in
    let lines = enabled in
    let handler = lines in
    rw (
      state.put-3.ensures,
      inside.put-2.ensures,
      counter.put_half-2.ensures,
      return.put_half.ensures,
      line.put_word.ensures,
      pended.put.ensures,
      taken.take_line-taken.ensures.line_value,
      taken.take_line-taken.ensures.pended_value,
      enabled.entry_or-2.ensures,
      lines.entry_or.ensures,
      handler.get_half-handler.ensures,
      ← handler.requires.1,
    )
