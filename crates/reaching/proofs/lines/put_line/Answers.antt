-- One part after another, with room for each.
use Rattle.std.proofs.Common.{◌≡◌, sym, ◌∙◌, arith, add-one}
use mathlib.Core.List.{append-nil}
use Rattle.bits.specs.Masks.{has}
use Rattle.reach.specs.Rows.{those_below}
use Rattle.reaching.specs.Report.{segment_line}
use Rattle.writing.proofs.Laws.Writer.{adds_none, adds_then, room_left}
use Rattle.reaching.proofs.Laws.Lines.{field_short, source_more, sources_short}
use Rattle.reaching.proofs.lines.put_line.Goals as goal
use Rattle.reaching.proofs.lines.put_line.Goals.{then-has_bit, else-has_bit}

pub put_field-requires : goal.put_field-requires
put_field-requires c = (omega arith, omega (arith, room_left c.put_word.ensures, field_short c.args.t c.requires.1))

pub loop-s-init : goal.loop-s-init
unfolding those_below
loop-s-init c = adds_none _

pub put_field-requires-then-has_bit : goal.put_field-requires-then-has_bit
put_field-requires-then-has_bit c =
    let s = c.loop-s.s in (
      omega arith,
      omega (
        arith,
        room_left c.put_word.ensures,
        room_left c.put_field.ensures,
        room_left c.loop-s.invariant,
        field_short c.args.t c.requires.1,
        sources_short (has c.args.row) s (omega arith),
        field_short s (omega arith),
      ),
    )

pub loop-s-preserved : goal.loop-s-preserved
loop-s-preserved c =
    rw (add-one, source_more)
    (elim c.if-has_bit.branch [
      | then-has_bit w ↦ rw (w.out-is, sym c.has_bit.ensures ∙ w.if-has_bit.true) (adds_then c.loop-s.invariant w.put_field-then-has_bit.ensures)
      | else-has_bit w ↦ rw (w.out-is, sym c.has_bit.ensures ∙ w.if-has_bit.false, append-nil) c.loop-s.invariant
    ])

pub put_byte-requires : goal.put_byte-requires
put_byte-requires c =
    omega (
      arith,
      room_left c.put_word.ensures,
      room_left c.put_field.ensures,
      room_left c.loop-s.invariant,
      field_short c.args.t c.requires.1,
      sources_short (has c.args.row) c.loop-s.s (omega arith),
    )

pub returns : goal.returns
unfolding segment_line
returns c =
    let end : c.loop-s.s ≡ c.args.segments = omega arith in
    rw (← end) (adds_then c.put_word.ensures (adds_then (adds_then c.put_field.ensures c.loop-s.invariant) c.put_byte.ensures))
