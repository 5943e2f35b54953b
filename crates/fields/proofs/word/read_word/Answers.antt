-- The word that stands there with its tab is the field, and has its kind; if none of them does, there is no record word.
use Rattle.std.proofs.Common.{refl, arith}
use Rattle.text.specs.Bytes.{bytes_of, same}
use Rattle.text.specs.Cut.{tab}
use Rattle.text.specs.Lines.{word_of}
use Rattle.text.specs.Places.{unparted}
use Rattle.text.proofs.Laws.Words.{field_past, field_known, field_other, field_none}
use Rattle.fields.proofs.word.read_word.Goals as goal

pub returns-in_err-rest : goal.returns-in_err-rest
returns-in_err-rest c = rw c.from_residual.ensures (field_past _ _ tab refl word_of (omega (arith, c.in_err-rest.ensures.lookup.0)))

pub returns-then-starts_with : goal.returns-then-starts_with
unfolding word_of same unparted
returns-then-starts_with c =
    field_known _ c.args.place.now tab refl (bytes_of "flow") refl c.in_ok-rest.ensures.lookup.0.2
    c.starts_with.ensures.value c.if-starts_with.true word_of

pub returns-then-starts_with-2 : goal.returns-then-starts_with-2
unfolding word_of same unparted
returns-then-starts_with-2 c =
    field_known _ c.args.place.now tab refl (bytes_of "right") refl c.in_ok-rest.ensures.lookup.0.2
    c.starts_with-2.ensures.value c.if-starts_with-2.true word_of

pub returns-then-starts_with-3 : goal.returns-then-starts_with-3
unfolding word_of same unparted
returns-then-starts_with-3 c =
    field_known _ c.args.place.now tab refl (bytes_of "slot") refl c.in_ok-rest.ensures.lookup.0.2
    c.starts_with-3.ensures.value c.if-starts_with-3.true word_of

pub returns-then-starts_with-4 : goal.returns-then-starts_with-4
unfolding word_of same unparted
returns-then-starts_with-4 c =
    field_known _ c.args.place.now tab refl (bytes_of "segment") refl c.in_ok-rest.ensures.lookup.0.2
    c.starts_with-4.ensures.value c.if-starts_with-4.true word_of

pub returns-then-starts_with-5 : goal.returns-then-starts_with-5
unfolding word_of same unparted
returns-then-starts_with-5 c =
    field_known _ c.args.place.now tab refl (bytes_of "partition") refl c.in_ok-rest.ensures.lookup.0.2
    c.starts_with-5.ensures.value c.if-starts_with-5.true word_of

pub returns : goal.returns
unfolding word_of same unparted
returns c =
    let rest = c.in_ok-rest.ensures.lookup.0.2 in
    field_none _ _ tab refl word_of
    (λ e.
    rw (
      field_other _ c.args.place.now tab refl (bytes_of "flow") refl rest c.starts_with.ensures.value c.if-starts_with.false e,
      field_other _ c.args.place.now tab refl (bytes_of "right") refl rest c.starts_with-2.ensures.value c.if-starts_with-2.false e,
      field_other _ c.args.place.now tab refl (bytes_of "slot") refl rest c.starts_with-3.ensures.value c.if-starts_with-3.false e,
      field_other _ c.args.place.now tab refl (bytes_of "segment") refl rest c.starts_with-4.ensures.value c.if-starts_with-4.false e,
      field_other _ c.args.place.now tab refl (bytes_of "partition") refl rest c.starts_with-5.ensures.value c.if-starts_with-5.false e,
    ))
