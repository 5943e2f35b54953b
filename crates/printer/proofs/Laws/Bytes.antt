-- Printed lines are bytes: digits, letters, words, tabs and line ends stand below 256.
use Prim.Native.Nat.{ℕ, ◌≤◌}
use mathlib.Core.Path.{◌≡◌, refl}
use mathlib.Core.Bool.{Bool, true, ◌&&◌}
use mathlib.Core.List.{List, [], ◌∷◌, ◌++◌}
use native.Mathlib.Omega.{arith}
use borrow.Author.Tests.{leb-true, lt-ltb}
use lib.Dec.{leb, ltb}
use Rattle.text.specs.Cut.{tab, line_end}
use Rattle.text.specs.Number.{ten, zero_to_nine, all_digits}
use Rattle.text.specs.declared.line.Line.{Line}
use Rattle.text.specs.declared.line.Line.TheVariants.{Bad, Segment, Partition, Right, Flow, Slot}
use Rattle.policy.specs.Sound.{all_under}
use Rattle.policy.proofs.Laws.Bools.{and_left, and_right}
use Rattle.printer.specs.Decimal.{digits}
use Rattle.printer.specs.Printer.{letters_of, word_of_line, fields_of_line, parted, text_of_line, text_of_lines}
use Rattle.printer.proofs.Laws.Decimal.{all_digits_lem}
use Rattle.printer.proofs.Laws.Lines.{Short, Printable, All, letters-cases}

abbrev bytes : List ℕ → Bool
bytes = all_under 256

joined : (l m : List ℕ) → bytes l ≡ true → bytes m ≡ true → bytes (l ++ m) ≡ true
unfolding all_under
joined [] m h e = e
joined (a ∷ l) m h e = rw (and_left (ltb a 256) (bytes l) h, joined l m (and_right (ltb a 256) (bytes l) h) e)

digits-bytes : (l : List ℕ) → all_digits ten l ≡ true → bytes l ≡ true
unfolding all_under all_digits
digits-bytes [] h = refl
digits-bytes (a ∷ l) h =
    let e : zero_to_nine a ≡ true = and_left (zero_to_nine a) (all_digits ten l) h in
    let most : a ≤ 0x39 = leb-true a 0x39 (and_right (leb 0x30 a) (leb a 0x39) e) in
    rw (lt-ltb a 256 (omega arith), digits-bytes l (and_right (zero_to_nine a) (all_digits ten l) h))

number-bytes : (n : ℕ) → Short n → bytes (digits n) ≡ true
number-bytes n h = digits-bytes (digits n) (all_digits_lem n h)

letters-bytes : (mode : ℕ) → 1 ≤ mode → mode ≤ 3 → bytes (letters_of mode) ≡ true
unfolding all_under letters_of
letters-bytes = letters-cases (λ mode. bytes (letters_of mode) ≡ true) refl refl refl

word_bytes : (line : Line) → bytes (word_of_line line) ≡ true
unfolding all_under word_of_line
word_bytes Bad = refl
word_bytes (Segment id base size) = refl
word_bytes (Partition id code save) = refl
word_bytes (Right partition segment mode) = refl
word_bytes (Flow from to) = refl
word_bytes (Slot partition ticks) = refl

unfoldable all_bytes : List (List ℕ) → Bool
all_bytes [] = true
all_bytes (f ∷ fs) = bytes f && all_bytes fs

fields-bytes : (line : Line) → Printable line → all_bytes (fields_of_line line) ≡ true
unfolding all_bytes fields_of_line
fields-bytes Bad h = refl
fields-bytes (Segment id base size) h = rw (number-bytes id h.0, number-bytes base h.1, number-bytes size h.2)
fields-bytes (Partition id code save) h = rw (number-bytes id h.0, number-bytes code h.1, number-bytes save h.2)
fields-bytes (Right partition segment mode) h =
    rw (number-bytes partition h.0, number-bytes segment h.1, letters-bytes mode h.2 h.3)
fields-bytes (Flow from to) h = rw (number-bytes from h.0, number-bytes to h.1)
fields-bytes (Slot partition ticks) h = rw (number-bytes partition h.0, number-bytes ticks h.1)

parted-bytes : (f : List ℕ) (fs : List (List ℕ)) → bytes f ≡ true → all_bytes fs ≡ true → bytes (parted f fs) ≡ true
unfolding all_under all_bytes parted
parted-bytes f [] h e = h
parted-bytes f (g ∷ fs) h e =
    joined f (tab ∷ parted g fs) h
    (rw (lt-ltb tab 256 (omega arith)) (parted-bytes g fs (and_left (bytes g) (all_bytes fs) e) (and_right (bytes g) (all_bytes fs) e)))

line_bytes : (line : Line) → Printable line → bytes (text_of_line line) ≡ true
unfolding all_under text_of_line
line_bytes line h =
    joined (parted (word_of_line line) (fields_of_line line)) (line_end ∷ [])
    (parted-bytes (word_of_line line) (fields_of_line line) (word_bytes line) (fields-bytes line h))
    (rw (lt-ltb line_end 256 (omega arith)))

pub lines_bytes : (lines : List Line) → All Printable lines → all_under 256 (text_of_lines lines) ≡ true
unfolding all_under text_of_lines
lines_bytes [] h = refl
lines_bytes (line ∷ lines) h =
    joined (text_of_line line) (text_of_lines lines) (line_bytes line h.0) (lines_bytes lines h.1)
