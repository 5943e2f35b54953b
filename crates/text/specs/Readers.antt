-- 01: "The reader's place, a byte and a line number, moves forward past each field." What each reader finds at the
-- place that it is lent, a field's first byte, and where it leaves the place.
use Rattle.std.specs.Prelude.{ℕ, ◌+◌, cond, List, eqb, ltb, length, get_or, Option, Some, None}
use Rattle.text.specs.declared.read.LineRead.{LineRead}
use Rattle.text.specs.Cut.{fields_of, line_end, tab}
use Rattle.text.specs.Lines.{line_of, word_of}
use Rattle.text.specs.Number.{number, letters}
use Rattle.text.specs.Places.{piece_at, end_at, up_to}
use Rattle.text.specs.declared.line.Cursor.{Cursor}
use Rattle.text.specs.declared.line.Kind.{Kind}
use Rattle.text.specs.declared.line.Line.{Line}
use Rattle.text.specs.declared.line.Line.TheVariants.{Bad, Segment, Partition, Right, Flow, Slot}

-- The field at a place, and where it ends: at a tab, at the line's end or where the text ends.
unfoldable pub field_at : List ℕ → ℕ → List ℕ
field_at text at = piece_at tab (up_to text at) at

unfoldable pub field_end : List ℕ → ℕ → ℕ
field_end text at = end_at tab (up_to text at) at

-- The byte that ends it; where the text ends 0, which ends no field.
unfoldable pub stop_at : List ℕ → ℕ → ℕ
stop_at text at = get_or text (field_end text at) 0

-- The place past a field and the byte that ends it.
abbrev pub past_field : List ℕ → Cursor → Cursor
past_field text c = record { at = field_end text c.at + 1; line = c.line }

-- What a reader finds, if anything, and where it leaves the place.
pub record Found (T : Type 0) : Type 0 where
  pub said : Option T
  pub next : Cursor

-- The place goes past what is found; where nothing is, it stays.
abbrev pub found : {T : Type 0} → Option T → Cursor → Cursor → Found T
found (Some v) past c = record { said = Some v; next = past }
found None past c = record { said = None; next = c }

-- The field at the place, which this byte ends, read so.
unfoldable pub field_read : {T : Type 0} → (List ℕ → Option T) → ℕ → List ℕ → Cursor → Found T
field_read read end text c =
    found (cond (eqb (stop_at text c.at) end) (read (field_at text c.at)) None) (past_field text c) c

-- The record word, which a tab ends.
abbrev pub word_read : List ℕ → Cursor → Found Kind
word_read text c = field_read word_of tab text c

-- A number with a field after it, a number that ends its line, and the letters of a right, which end theirs.
abbrev pub inner_read : List ℕ → Cursor → Found ℕ
inner_read text c = field_read number tab text c

abbrev pub last_read : List ℕ → Cursor → Found ℕ
last_read text c = field_read number line_end text c

abbrev pub letters_read : List ℕ → Cursor → Found ℕ
letters_read text c = field_read letters line_end text c

-- The line at a place; "Lines end in hex 0A, the last one too", so it is Bad where it has no end.
unfoldable pub line_at : List ℕ → ℕ → Line
line_at text at = cond (ltb (end_at line_end text at) (length text)) (line_of (fields_of (piece_at line_end text at))) Bad

-- What a line says, and the place past it, where the next line begins. Past a bad line nothing is read.
abbrev pub line_found : Line → Cursor → LineRead
line_found Bad past = record { line = Bad; next = record { at = 0; line = 0 } }
line_found (Segment id base size) past = record { line = Segment id base size; next = past }
line_found (Partition id code save) past = record { line = Partition id code save; next = past }
line_found (Right partition segment mode) past = record { line = Right partition segment mode; next = past }
line_found (Flow from to) past = record { line = Flow from to; next = past }
line_found (Slot partition ticks) past = record { line = Slot partition ticks; next = past }

unfoldable pub line_read : List ℕ → ℕ → ℕ → LineRead
line_read text at n = line_found (line_at text at) (record { at = end_at line_end text at + 1; line = n + 1 })
