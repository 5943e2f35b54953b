-- 01, "The policy text": "The record words are segment, partition, right, flow and slot", and the fields of each.
-- Refusal 2, "unknown word, wrong fields, bad number or letters, no line end", is the case Bad.
-- The lines are those that a reader of numbers gives, so that 01's decimal reading can still be spoken of: "decimal texts
-- give what they gave" (02, S-4). A policy text is read by `number`.
use Rattle.std.specs.Prelude.{ℕ, cond, List, [], ◌∷◌, Option, Some, None}
use Rattle.text.specs.Bytes.{bytes_of, same}
use Rattle.text.specs.Cut.{cut, fields_of, line_end}
use Rattle.text.specs.Number.{number, letters}
use Rattle.text.specs.declared.line.Kind.{Kind}
use Rattle.text.specs.declared.line.Kind.TheVariants.{Segment as OfSegment, Partition as OfPartition, Right as OfRight, Flow as OfFlow, Slot as OfSlot}
use Rattle.text.specs.declared.line.Line.{Line}
use Rattle.text.specs.declared.line.Line.TheVariants.{Bad, Segment, Partition, Right, Flow, Slot}

-- Goes on with the value of a field, if it has one.
abbrev pub given : Option ℕ → (ℕ → Line) → Line
given None more = Bad
given (Some n) more = more n

-- Goes on with the next field read so, and with the fields after it.
abbrev pub next_field : (List ℕ → Option ℕ) → List (List ℕ) → (ℕ → List (List ℕ) → Line) → Line
next_field read [] more = Bad
next_field read (f ∷ fs) more = given (read f) (λ n. more n fs)

-- Nothing may stand after the last field.
abbrev pub last : List (List ℕ) → Line → Line
last [] line = line
last (f ∷ fs) line = Bad

-- "The record words are segment, partition, right, flow and slot"
unfoldable pub word_of : List ℕ → Option Kind
word_of word =
    cond (same word (bytes_of "segment")) (Some OfSegment)
    (cond (same word (bytes_of "partition")) (Some OfPartition)
    (cond (same word (bytes_of "right")) (Some OfRight)
    (cond (same word (bytes_of "flow")) (Some OfFlow)
    (cond (same word (bytes_of "slot")) (Some OfSlot) None))))

module _ (read : List ℕ → Option ℕ) where
  -- "segment: id, base, length"
  unfoldable pub segment_line : List (List ℕ) → Line
  segment_line fs =
      next_field read fs λ id fs. next_field read fs λ base fs. next_field read fs λ size fs.
      last fs (Segment id base size)

  -- "partition: id, code segment, save segment"
  unfoldable pub partition_line : List (List ℕ) → Line
  partition_line fs =
      next_field read fs λ id fs. next_field read fs λ code fs. next_field read fs λ save fs.
      last fs (Partition id code save)

  -- "right: partition, segment, then r, w or rw"
  unfoldable pub right_line : List (List ℕ) → Line
  right_line fs =
      next_field read fs λ partition fs. next_field read fs λ segment fs. next_field letters fs λ mode fs.
      last fs (Right partition segment mode)

  -- "flow: from, to"
  unfoldable pub flow_line : List (List ℕ) → Line
  flow_line fs = next_field read fs λ from fs. next_field read fs λ to fs. last fs (Flow from to)

  -- "slot: partition, ticks (1 to 1,000)"
  unfoldable pub slot_line : List (List ℕ) → Line
  slot_line fs = next_field read fs λ partition fs. next_field read fs λ ticks fs. last fs (Slot partition ticks)

  -- What the fields after a record word say.
  abbrev pub line_of_kind : Kind → List (List ℕ) → Line
  line_of_kind OfSegment fs = segment_line fs
  line_of_kind OfPartition fs = partition_line fs
  line_of_kind OfRight fs = right_line fs
  line_of_kind OfFlow fs = flow_line fs
  line_of_kind OfSlot fs = slot_line fs

  -- What a line says, by its record word and the fields after it.
  abbrev pub line_of_word : Option Kind → List (List ℕ) → Line
  line_of_word None fs = Bad
  line_of_word (Some kind) fs = line_of_kind kind fs

  unfoldable pub line_by : List (List ℕ) → Line
  line_by [] = Bad
  line_by (word ∷ fs) = line_of_word (word_of word) fs

  -- "Lines end in hex 0A, the last one too": what stands after the last line end is one more line, and a bad one, unless
  -- it is empty.
  unfoldable pub lines_of_pieces : List (List ℕ) → List Line
  lines_of_pieces [] = []
  lines_of_pieces ([] ∷ []) = []
  lines_of_pieces ((b ∷ bs) ∷ []) = Bad ∷ []
  lines_of_pieces (p ∷ q ∷ ps) = line_by (fields_of p) ∷ lines_of_pieces (q ∷ ps)

  unfoldable pub lines_by : List ℕ → List Line
  lines_by text = lines_of_pieces (cut line_end text)

-- 02, S-4: "In all places where a number stands"
abbrev pub line_of : List (List ℕ) → Line
line_of fs = line_by number fs

abbrev pub lines_of : List ℕ → List Line
lines_of text = lines_by number text
