-- Behind the text there is no field; otherwise the field is the letters that stand there with the line end, or none of
-- the three.
use Rattle.std.proofs.Common.{refl, arith}
use Rattle.text.specs.Bytes.{bytes_of, same}
use Rattle.text.specs.Cut.{line_end}
use Rattle.text.specs.Number.{letters}
use Rattle.text.specs.Places.{unparted}
use Rattle.text.proofs.Laws.Words.{field_past, field_known, field_other, field_none}
use Rattle.fields.proofs.field.read_letters.Goals as goal

pub returns-in_err-rest : goal.returns-in_err-rest
returns-in_err-rest c = rw c.from_residual.ensures (field_past _ _ line_end refl letters (omega (arith, c.in_err-rest.ensures.lookup.0)))

pub returns-then-starts_with : goal.returns-then-starts_with
unfolding letters same unparted
returns-then-starts_with c =
    field_known _ c.args.place.now line_end refl (bytes_of "r") refl c.in_ok-rest.ensures.lookup.0.2
    c.starts_with.ensures.value c.if-starts_with.true letters

pub returns-then-starts_with-2 : goal.returns-then-starts_with-2
unfolding letters same unparted
returns-then-starts_with-2 c =
    field_known _ c.args.place.now line_end refl (bytes_of "w") refl c.in_ok-rest.ensures.lookup.0.2
    c.starts_with-2.ensures.value c.if-starts_with-2.true letters

pub returns-then-starts_with-3 : goal.returns-then-starts_with-3
unfolding letters same unparted
returns-then-starts_with-3 c =
    field_known _ c.args.place.now line_end refl (bytes_of "rw") refl c.in_ok-rest.ensures.lookup.0.2
    c.starts_with-3.ensures.value c.if-starts_with-3.true letters

pub returns : goal.returns
unfolding letters same unparted
returns c =
    let rest = c.in_ok-rest.ensures.lookup.0.2 in
    field_none _ _ line_end refl letters
    (λ e.
    rw (
      field_other _ c.args.place.now line_end refl (bytes_of "r") refl rest c.starts_with.ensures.value c.if-starts_with.false e,
      field_other _ c.args.place.now line_end refl (bytes_of "w") refl rest c.starts_with-2.ensures.value c.if-starts_with-2.false e,
      field_other _ c.args.place.now line_end refl (bytes_of "rw") refl rest c.starts_with-3.ensures.value c.if-starts_with-3.false e,
    ))
