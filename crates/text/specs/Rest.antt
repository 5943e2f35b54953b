-- What is left of a line at a place of it, after some of its fields.
use Rattle.std.specs.Prelude.{ℕ, ◌+◌, cond, List, ltb, length, Option, Some, None}
use Rattle.text.specs.declared.read.LineRead.{LineRead}
use Rattle.text.specs.Cut.{fields_of, line_end}
use Rattle.text.specs.Places.{piece_at, end_at}
use Rattle.text.specs.Readers.{line_found}
use Rattle.text.specs.declared.line.Cursor.{Cursor}
use Rattle.text.specs.declared.line.Line.{Line}
use Rattle.text.specs.declared.line.Line.TheVariants.{Bad}

-- The fields from a place to its line's end.
unfoldable pub fields_from : List ℕ → ℕ → List (List ℕ)
fields_from text at = fields_of (piece_at line_end text at)

-- What these fields say, and the place past the line; it is bad where it has no end.
unfoldable pub rest_read : (List (List ℕ) → Line) → List ℕ → Cursor → LineRead
rest_read says text c =
    let end = end_at line_end text c.at in
    line_found (cond (ltb end (length text)) (says (fields_from text c.at)) Bad)
    (record { at = end + 1; line = c.line + 1 })

-- What a reader has taken of the rest of the n-th line, and the byte past its last field, which is past the line; nothing
-- of a bad one.
abbrev pub line_taken : Option Line → ℕ → ℕ → LineRead
line_taken (Some line) past n = record { line = line; next = record { at = past; line = n + 1 } }
line_taken None past n = record { line = Bad; next = record { at = 0; line = 0 } }
