-- Behind the text there is no field. Otherwise the digits are the field if the byte that is to end it stands after them,
-- and they are a number if there are some and not too many, and no 0 leads them.
use Rattle.std.proofs.Common.{refl, arith, rules}
use Rattle.text.specs.Number.{number}
use Rattle.text.proofs.Laws.Found.{number_within, not_ended, no_number, number_some, zero_led, number_there}
use Rattle.text.proofs.Laws.Words.{field_past}
use Rattle.fields.proofs.field.number_to.Goals as goal

pub returns-then-text-place : goal.returns-then-text-place
returns-then-text-place c = field_past _ _ _ c.requires number (omega arith)

pub returns-in_err-d : goal.returns-in_err-d
returns-in_err-d c =
    rw c.from_residual.ensures (not_ended _ c.requires _ _ c.if-text-place.false c.digits_at.ensures c.in_err-d.was)

pub overflow_sub-n : goal.overflow_sub-n
overflow_sub-n c =
    (number_within _ c.requires _ c.args.place.now c.if-text-place.false c.digits_at.ensures c.in_ok-d.was).0

pub returns-then-n-d : goal.returns-then-n-d
returns-then-n-d c =
    no_number _ c.requires _ _ c.if-text-place.false c.digits_at.ensures c.in_ok-d.was refl c.if-n-d.true

pub bounds-text-d : goal.bounds-text-d
bounds-text-d c =
    number_some _ c.requires _ c.args.place.now c.if-text-place.false c.digits_at.ensures c.in_ok-d.was refl c.if-n-d.false

pub returns-then-text-d : goal.returns-then-text-d
returns-then-text-d c =
    zero_led _ c.requires _ _ c.if-text-place.false c.digits_at.ensures c.in_ok-d.was refl c.if-n-d.false c.if-text-d.true

pub overflow_add-place : goal.overflow_add-place
overflow_add-place c =
    let within = number_within _ c.requires _ c.args.place.now c.if-text-place.false c.digits_at.ensures c.in_ok-d.was in
    search rules

pub returns : goal.returns
returns c =
    number_there _ c.requires _ _ c.if-text-place.false c.digits_at.ensures c.in_ok-d.was refl c.if-n-d.false c.if-text-d.false
