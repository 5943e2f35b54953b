-- One part after another, with room for each.
use Rattle.std.proofs.Common.{arith}
use Rattle.writing.proofs.Laws.Writer.{adds_then, room_left}
use Rattle.reaching.specs.Question.{reach_line}
use Rattle.reaching.proofs.Laws.Lines.{field_short}
use Rattle.reaching.proofs.answer.put_reach.Goals as goal

pub put_field-requires : goal.put_field-requires
put_field-requires c = (omega arith, omega (arith, room_left c.put_word.ensures, field_short c.args.from c.requires.0))

pub put_field-requires-2 : goal.put_field-requires-2
put_field-requires-2 c = (
  omega arith,
  omega (arith, room_left c.put_word.ensures, room_left c.put_field.ensures, field_short c.args.from c.requires.0, field_short c.args.to c.requires.1),
)

pub put_word-requires-then-yes : goal.put_word-requires-then-yes
put_word-requires-then-yes c =
    omega (
      arith,
      room_left c.put_word.ensures,
      room_left c.put_field.ensures,
      room_left c.put_field-2.ensures,
      field_short c.args.from c.requires.0,
      field_short c.args.to c.requires.1,
    )

pub put_word-requires-else-yes : goal.put_word-requires-else-yes
put_word-requires-else-yes c =
    omega (
      arith,
      room_left c.put_word.ensures,
      room_left c.put_field.ensures,
      room_left c.put_field-2.ensures,
      field_short c.args.from c.requires.0,
      field_short c.args.to c.requires.1,
    )

pub returns-then-yes : goal.returns-then-yes
unfolding reach_line
returns-then-yes c =
    rw c.if-yes.true (adds_then (adds_then (adds_then c.put_word.ensures c.put_field.ensures) c.put_field-2.ensures) c.put_word-then-yes.ensures)

pub returns-else-yes : goal.returns-else-yes
unfolding reach_line
returns-else-yes c =
    rw c.if-yes.false (adds_then (adds_then (adds_then c.put_word.ensures c.put_field.ensures) c.put_field-2.ensures) c.put_word-else-yes.ensures)
