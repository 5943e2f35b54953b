-- A byte that ends a field is no x, so decimal digits that it ends are no mark; otherwise the code asks what the
-- definition asks.
use Rattle.std.proofs.Common.{ap, ◌∙◌}
use Rattle.std.specs.Prelude.{Some}
use Rattle.text.proofs.Laws.Scan.{ended_digits, open_digits, hex_digits, hex_open}
use Rattle.digits.proofs.number.digits_at.Goals as goal

pub returns-then-d-end : goal.returns-then-d-end
returns-then-d-end c =
    ap Some c.of_number.ensures ∙ ended_digits _ _ _ c.digits_from-d.ensures c.requires.1 c.if-d-end.true

pub returns-then-not-d-from : goal.returns-then-not-d-from
returns-then-not-d-from c = open_digits _ _ _ c.digits_from-d.ensures c.if-d-end.false c.if-not-d-from.true

pub returns-then-h-end : goal.returns-then-h-end
returns-then-h-end c =
    hex_open _ _ _ c.digits_from-d.ensures c.if-not-d-from.false c.digits_from-h.ensures c.if-h-end.true

pub returns : goal.returns
returns c =
    ap Some c.of_number-2.ensures
    ∙ hex_digits _ _ _ c.digits_from-d.ensures c.if-not-d-from.false c.digits_from-h.ensures c.if-h-end.false
