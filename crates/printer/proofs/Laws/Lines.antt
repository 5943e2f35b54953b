-- A line's text says that line, and a text of lines says those lines: each field reads back, and no field has a tab or a line end.
use Prim.Native.Nat.{ℕ, zero, suc, ◌≤◌, ◌<◌}
use mathlib.Core.Path.{◌≡◌, refl, ◌∙◌, ap}
use mathlib.Core.Bool.{true}
use mathlib.Core.List.{List, [], ◌∷◌, ◌++◌, append_assoc}
use native.Mathlib.Omega.{arith}
use lib.ListN.{length}
use Rattle.std.specs.Prelude.{Some}
use Rattle.text.specs.Cut.{cut, line_end, fields_of}
use Rattle.text.specs.Bytes.{same}
use Rattle.text.specs.Number.{number, letters}
use Rattle.text.specs.Lines.{line_of, line_by, lines_of, lines_by, lines_of_pieces, word_of, segment_line, partition_line, right_line, flow_line, slot_line}
use Rattle.text.specs.declared.line.Line.{Line}
use Rattle.text.specs.declared.line.Line.TheVariants.{Bad, Segment, Partition, Right, Flow, Slot}
use Rattle.printer.specs.Decimal.{digits}
use Rattle.printer.specs.Printer.{letters_of, word_of_line, fields_of_line, parted, text_of_line, text_of_lines}
use Rattle.printer.proofs.Laws.Decimal.{digits_number, all_digits_lem}
use Rattle.printer.proofs.Laws.Cut.{plain, all_plain, digits_plain, cut_first, cut_some, cut-parted, parted_lacks}

-- A number that five digits can write.
abbrev pub Short : ℕ → Type 0
Short n = n < 100000

-- A line that has a text.
abbrev pub Printable : Line → Type 0
Printable Bad = ⊥
Printable (Segment id base size) = Short id × Short base × Short size
Printable (Partition id code save) = Short id × Short code × Short save
Printable (Right partition segment mode) = Short partition × Short segment × (1 ≤ mode) × (mode ≤ 3)
Printable (Flow from to) = Short from × Short to
Printable (Slot partition ticks) = Short partition × Short ticks

-- Each line of a list.
abbrev pub All : (Line → Type 0) → List Line → Type 0
All P [] = Unit
All P (line ∷ lines) = P line × All P lines

-- A fact about the letters holds if it does of each of the three.
pub letters-cases : (P : ℕ → Type 0) → P 1 → P 2 → P 3 → (mode : ℕ) → 1 ≤ mode → mode ≤ 3 → P mode
letters-cases P r w rw' zero l m = absurd (omega arith)
letters-cases P r w rw' (suc zero) l m = r
letters-cases P r w rw' (suc (suc zero)) l m = w
letters-cases P r w rw' (suc (suc (suc zero))) l m = rw'
letters-cases P r w rw' (suc (suc (suc (suc n)))) l m = absurd (omega arith)

letters_back : (mode : ℕ) → 1 ≤ mode → mode ≤ 3 → letters (letters_of mode) ≡ Some mode
unfolding letters letters_of same
letters_back = letters-cases (λ mode. letters (letters_of mode) ≡ Some mode) refl refl refl

letters_plain : (mode : ℕ) → 1 ≤ mode → mode ≤ 3 → plain (letters_of mode) ≡ true
unfolding plain letters_of
letters_plain = letters-cases (λ mode. plain (letters_of mode) ≡ true) refl refl refl

number_plain : (n : ℕ) → Short n → plain (digits n) ≡ true
number_plain n h = digits_plain (digits n) (all_digits_lem n h)

word_plain : (line : Line) → plain (word_of_line line) ≡ true
unfolding plain word_of_line
word_plain Bad = refl
word_plain (Segment id base size) = refl
word_plain (Partition id code save) = refl
word_plain (Right partition segment mode) = refl
word_plain (Flow from to) = refl
word_plain (Slot partition ticks) = refl

fields_plain : (line : Line) → Printable line → all_plain (fields_of_line line) ≡ true
unfolding all_plain fields_of_line
fields_plain Bad h = refl
fields_plain (Segment id base size) h = rw (number_plain id h.0, number_plain base h.1, number_plain size h.2)
fields_plain (Partition id code save) h = rw (number_plain id h.0, number_plain code h.1, number_plain save h.2)
fields_plain (Right partition segment mode) h =
    rw (number_plain partition h.0, number_plain segment h.1, letters_plain mode h.2 h.3)
fields_plain (Flow from to) h = rw (number_plain from h.0, number_plain to h.1)
fields_plain (Slot partition ticks) h = rw (number_plain partition h.0, number_plain ticks h.1)

-- The word and the fields of a line, read back.
pub line_back : (line : Line) → Printable line → line_of (word_of_line line ∷ fields_of_line line) ≡ line
unfolding line_by word_of same word_of_line fields_of_line segment_line partition_line right_line flow_line slot_line
line_back Bad h = absurd h
line_back (Segment id base size) h = rw (digits_number id h.0, digits_number base h.1, digits_number size h.2)
line_back (Partition id code save) h = rw (digits_number id h.0, digits_number code h.1, digits_number save h.2)
line_back (Right partition segment mode) h =
    rw (digits_number partition h.0, digits_number segment h.1, letters_back mode h.2 h.3)
line_back (Flow from to) h = rw (digits_number from h.0, digits_number to h.1)
line_back (Slot partition ticks) h = rw (digits_number partition h.0, digits_number ticks h.1)

pieces_more : (p : List ℕ) (ps : List (List ℕ)) → 0 < length ps → lines_of_pieces number (p ∷ ps) ≡ line_of (fields_of p) ∷ lines_of_pieces number ps
unfolding lines_of_pieces
pieces_more p [] l = absurd (omega arith)
pieces_more p (q ∷ ps) l = refl

-- The first line of a text comes off.
text_first : (line : Line) (rest : List ℕ) → Printable line → lines_of (text_of_line line ++ rest) ≡ line ∷ lines_of rest
unfolding lines_by text_of_line
text_first line rest h =
    let text = parted (word_of_line line) (fields_of_line line) in
    let lacking = parted_lacks (word_of_line line) (fields_of_line line) (word_plain line) (fields_plain line h) in
    let fields = cut-parted (word_of_line line) (fields_of_line line) (word_plain line) (fields_plain line h) in
    ap (lines_of_pieces number) (ap (cut line_end) (append_assoc text (line_end ∷ []) rest) ∙ cut_first line_end text rest lacking)
    ∙ pieces_more text (cut line_end rest) (cut_some line_end rest)
    ∙ ap (◌∷ lines_of_pieces number (cut line_end rest)) (ap line_of fields ∙ line_back line h)

-- The lines of a text, read back.
pub lines_back : (lines : List Line) → All Printable lines → lines_of (text_of_lines lines) ≡ lines
unfolding lines_by text_of_lines lines_of_pieces cut
lines_back [] h = refl
lines_back (line ∷ lines) h = text_first line (text_of_lines lines) h.0 ∙ ap (line ∷◌) (lines_back lines h.1)
