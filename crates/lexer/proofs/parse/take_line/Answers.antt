-- A line is what its kind says of the fields after its record word.
use Rattle.text.proofs.Laws.Line.{kind_none, kind_read}
use Rattle.lexer.proofs.parse.take_line.Goals as goal

pub returns-in_err-kind : goal.returns-in_err-kind
returns-in_err-kind c = rw c.from_residual.ensures (kind_none _ _ c.read_word.ensures c.in_err-kind.was)

pub returns : goal.returns
returns c = kind_read _ c.args.place.now c.read_word.ensures c.take_fields.result _ c.in_ok-kind.was c.take_fields.ensures
