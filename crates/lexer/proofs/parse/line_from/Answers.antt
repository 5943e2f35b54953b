-- The line at a place is what is taken of it there.
use Rattle.std.proofs.Common.{◌∙◌}
use Rattle.text.proofs.Laws.Line.{line_rest}
use Rattle.lexer.proofs.parse.line_from.Goals as goal

pub returns-in_default : goal.returns-in_default
returns-in_default c = c.in_default.ensures ∙ line_rest _ _ _

pub returns : goal.returns
returns c = c.in-Some.ensures ∙ line_rest _ _ _
