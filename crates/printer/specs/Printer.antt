-- 01, "The policy text": a text for a record, line by line in the order of kinds, and how long it can get.
use Rattle.std.specs.Prelude.{ℕ, zero, suc, ◌+◌, ◌-◌, ◌*◌, cond, ◌||◌, List, [], ◌∷◌, ◌++◌, length, eqb}
use Rattle.text.specs.Bytes.{bytes_of}
use Rattle.text.specs.Cut.{tab, line_end}
use Rattle.text.specs.declared.line.Line.{Line}
use Rattle.text.specs.declared.line.Line.TheVariants.{Bad, Segment, Partition, Right, Flow, Slot}
use Rattle.policy.specs.Limits.{Limits, longest_segment, most_ticks}
use Rattle.policy.specs.Modes.{mode_in}
use Rattle.policy.specs.View.{View}
use Rattle.policy.specs.Tables.{Tables, view_of}
use Rattle.printer.specs.Decimal.{digits}

-- "then r, w or rw", for a right as a number: "0 none, 1 r, 2 w, 3 rw"
unfoldable pub letters_of : ℕ → List ℕ
letters_of mode = cond (eqb mode 1) (bytes_of "r") (cond (eqb mode 2) (bytes_of "w") (bytes_of "rw"))

-- The fields after the word.
unfoldable pub fields_of_line : Line → List (List ℕ)
fields_of_line Bad = []
fields_of_line (Segment id base size) = digits id ∷ digits base ∷ digits size ∷ []
fields_of_line (Partition id code save) = digits id ∷ digits code ∷ digits save ∷ []
fields_of_line (Right partition segment mode) = digits partition ∷ digits segment ∷ letters_of mode ∷ []
fields_of_line (Flow from to) = digits from ∷ digits to ∷ []
fields_of_line (Slot partition ticks) = digits partition ∷ digits ticks ∷ []

-- "The record words are segment, partition, right, flow and slot"
unfoldable pub word_of_line : Line → List ℕ
word_of_line Bad = []
word_of_line (Segment id base size) = bytes_of "segment"
word_of_line (Partition id code save) = bytes_of "partition"
word_of_line (Right partition segment mode) = bytes_of "right"
word_of_line (Flow from to) = bytes_of "flow"
word_of_line (Slot partition ticks) = bytes_of "slot"

-- "Fields are parted by one tab."
unfoldable pub parted : List ℕ → List (List ℕ) → List ℕ
parted field [] = field
parted field (next ∷ rest) = field ++ tab ∷ parted next rest

-- "Lines end in hex 0A, the last one too."
unfoldable pub text_of_line : Line → List ℕ
text_of_line line = parted (word_of_line line) (fields_of_line line) ++ line_end ∷ []

unfoldable pub text_of_lines : List Line → List ℕ
text_of_lines [] = []
text_of_lines (line ∷ lines) = text_of_line line ++ text_of_lines lines

-- The lines for each number below a bound, in ascending order.
unfoldable pub lines_below : ℕ → (ℕ → List Line) → List Line
lines_below zero lines = []
lines_below (suc n) lines = lines_below n lines ++ lines n

-- What stands at each place of the record: one line, or none at a pair where no bit is set.
abbrev pub segment_at : View → ℕ → List Line
segment_at v i = Segment i (v.base i) (v.size i) ∷ []

abbrev pub partition_at : View → ℕ → List Line
partition_at v i = Partition i (v.code i) (v.save i) ∷ []

abbrev pub right_at : View → ℕ → ℕ → List Line
right_at v p s = cond (v.reads p s || v.writes p s) (Right p s (mode_in v p s) ∷ []) []

abbrev pub flow_at : View → ℕ → ℕ → List Line
flow_at v s u = cond (v.flow s u) (Flow s u ∷ []) []

abbrev pub slot_at : View → ℕ → List Line
slot_at v i = Slot (v.owner i) (v.ticks i) ∷ []

abbrev pub segment_lines : View → List Line
segment_lines v = lines_below v.segments (segment_at v)

abbrev pub partition_lines : View → List Line
partition_lines v = lines_below v.partitions (partition_at v)

-- "strictly ascend, first number first": row by row
abbrev pub right_lines : Limits → View → List Line
right_lines limits v = lines_below limits.partitions (λ p. lines_below limits.segments (right_at v p))

abbrev pub flow_lines : Limits → View → List Line
flow_lines limits v = lines_below limits.segments (λ s. lines_below limits.segments (flow_at v s))

abbrev pub slot_lines : View → List Line
slot_lines v = lines_below v.slots (slot_at v)

-- "lines come in this order of kinds"
unfoldable pub lines_of_record : Limits → Tables → List Line
lines_of_record limits t =
    let v = view_of t in
    segment_lines v ++ partition_lines v ++ right_lines limits v ++ flow_lines limits v ++ slot_lines v

unfoldable pub text_of : Limits → Tables → List ℕ
text_of limits t = text_of_lines (lines_of_record limits t)

-- "Counted by the widest line of each kind": a line for each segment, partition, pair of partition and segment, ordered
-- pair of two segments, and slot.
unfoldable pub text_bound : Limits → ℕ
text_bound limits =
    let segment = limits.segments - 1 in
    let partition = limits.partitions - 1 in
    limits.segments * length (text_of_line (Segment segment (limits.memory - 1) longest_segment))
    + limits.partitions * length (text_of_line (Partition partition segment segment))
    + limits.partitions * limits.segments * length (text_of_line (Right partition segment 3))
    + limits.segments * (limits.segments - 1) * length (text_of_line (Flow segment segment))
    + limits.slots * length (text_of_line (Slot partition most_ticks))
