-- Each turn adds one number of the row, of at most five digits.
use Rattle.std.proofs.Common.{ℕ, zero, suc, ◌≡◌, ◌+◌, ◌<◌, List, [], ◌∷◌, ◌++◌, length, get_or, take, arith}
use Rattle.std.proofs.lemmas.Grind.{flat_map-append}
use Rattle.std.proofs.lemmas.List.{append-nil, take_all, take_more}
use Rattle.std.proofs.lemmas.List.Folds.{length-flat_map-take}
use Rattle.std.proofs.lemmas.List.{length-append}
use Rattle.text.specs.Cut.{line_end}
use Rattle.writing.specs.Row.{field, fields, Short}
use Rattle.writing.proofs.Laws.Writer.{adds_then, room_left}
use Rattle.writing.proofs.writer.Writer.put_row.Goals as goal

short_at : (row : List ℕ) (i : ℕ) → i < length row → Short row → get_or row i 0 < 100000
short_at [] i h s = absurd (omega arith)
short_at (n ∷ row) zero h s = s.0
short_at (n ∷ row) (suc i) h s = short_at row i (omega arith) s.1

fields_more : (row : List ℕ) (i : ℕ) → i < length row → fields (take (i + 1) row) ≡ fields (take i row) ++ field (get_or row i 0)
fields_more row i h = rw (take_more row i 0 h, flat_map-append, append-nil)

pub put_field-requires : goal.put_field-requires
put_field-requires c =
    let row = c.args.row.now in
    let i = c.loop-n.n-index in
    let longer = length-append (fields row) (line_end ∷ []) in (
      short_at row i c.loop-n-test.true c.requires.0,
      omega (arith, room_left c.put_word.ensures, room_left c.loop-n.invariant, length-flat_map-take field row i 0 c.loop-n-test.true, longer),
    )

pub loop-n-preserved : goal.loop-n-preserved
loop-n-preserved c = rw (fields_more c.args.row.now c.loop-n.n-index c.loop-n-test.true) (adds_then c.loop-n.invariant c.put_field.ensures)

pub returns : goal.returns
returns c =
    let all = rw (take_all c.loop-n.n-index c.args.row.now c.loop-n-test.false) at c.loop-n.invariant in
    adds_then c.put_word.ensures (adds_then all c.put_byte.ensures)
