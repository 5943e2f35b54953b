-- The lines of a text, read by decimal numbers alone and by both forms: the same where no field begins with 0x, and for
-- every text the same but for lines that were bad. One induction, over what is claimed of the two.
use Prim.Native.Nat.{ℕ}
use mathlib.Core.Path.{◌≡◌, refl}
use mathlib.Core.Bool.{true, false, not}
use mathlib.Core.List.{List, [], ◌∷◌}
use borrow.Author.Tests.{not-true}
use Rattle.std.specs.Prelude.{Option, Some, None}
use Rattle.text.proofs.Forms.{decimal_kept, value_kept}
use Rattle.text.proofs.Laws.Bools.{and_left, and_right}
use Rattle.text.specs.Cut.{cut, line_end, fields_of}
use Rattle.text.specs.DecimalTexts.{no_field, no_line, is_decimal}
use Rattle.text.specs.Lines.{given, next_field, segment_line, partition_line, right_line, flow_line, slot_line}
use Rattle.text.specs.Lines.{word_of, line_of_kind, line_of_word, line_by, lines_of_pieces, lines_by}
use Rattle.text.specs.Number.{decimal, begins_hex, number}
use Rattle.text.specs.declared.line.Kind.{Kind}
use Rattle.text.specs.declared.line.Kind.TheVariants.{Segment as OfSegment, Partition as OfPartition, Right as OfRight, Flow as OfFlow, Slot as OfSlot}
use Rattle.text.specs.declared.line.Line.{Line}
use Rattle.text.specs.declared.line.Line.TheVariants.{Bad}

-- Something claimed of each two lines.
abbrev pub Both : (Line → Line → Type 0) → List Line → List Line → Type 0
Both Claim [] [] = Unit
Both Claim [] (m ∷ ms) = ⊥
Both Claim (l ∷ ls) [] = ⊥
Both Claim (l ∷ ls) (m ∷ ms) = Claim l m × Both Claim ls ms

abbrev All : (List ℕ → Type 0) → List (List ℕ) → Type 0
All Fine [] = Unit
All Fine (f ∷ fs) = Fine f × All Fine fs

abbrev AllOf : (List ℕ → Type 0) → List (List ℕ) → Type 0
AllOf Fine [] = Unit
AllOf Fine (line ∷ lines) = All Fine (fields_of line) × AllOf Fine lines

-- A claim that holds of a line and itself, and that a field leaves if it is fine.
module _
    (Claim : Line → Line → Type 0) (Fine : List ℕ → Type 0) (same : (line : Line) → Claim line line)
    (step :
    (f : List ℕ) → Fine f → (more other : ℕ → Line) → ((n : ℕ) → Claim (more n) (other n))
    → Claim (given (decimal f) more) (given (number f) other)) where
  a_number :
      (fs : List (List ℕ)) → All Fine fs → (more other : ℕ → List (List ℕ) → Line)
      → ((n : ℕ) (fs : List (List ℕ)) → All Fine fs → Claim (more n fs) (other n fs))
      → Claim (next_field decimal fs more) (next_field number fs other)
  a_number [] a more other h = same Bad
  a_number (f ∷ fs) a more other h = step f a.0 (λ n. more n fs) (λ n. other n fs) (λ n. h n fs a.1)

  kind_claim :
      (kind : Kind) (fs : List (List ℕ)) → All Fine fs → Claim (line_of_kind decimal kind fs) (line_of_kind number kind fs)
  unfolding segment_line partition_line right_line flow_line slot_line
  kind_claim OfSegment fs a =
      a_number fs a _ _ λ id fs a. a_number fs a _ _ λ base fs a. a_number fs a _ _ λ size fs a. same _
  kind_claim OfPartition fs a =
      a_number fs a _ _ λ id fs a. a_number fs a _ _ λ code fs a. a_number fs a _ _ λ save fs a. same _
  kind_claim OfRight fs a = a_number fs a _ _ λ partition fs a. a_number fs a _ _ λ segment fs a. same _
  kind_claim OfFlow fs a = a_number fs a _ _ λ from fs a. a_number fs a _ _ λ to fs a. same _
  kind_claim OfSlot fs a = a_number fs a _ _ λ partition fs a. a_number fs a _ _ λ ticks fs a. same _

  word_claim :
      (kind : Option Kind) (fs : List (List ℕ)) → All Fine fs → Claim (line_of_word decimal kind fs) (line_of_word number kind fs)
  word_claim (Some kind) fs a = kind_claim kind fs a
  word_claim None fs a = same Bad

  line_claim : (fs : List (List ℕ)) → All Fine fs → Claim (line_by decimal fs) (line_by number fs)
  unfolding line_by
  line_claim [] a = same Bad
  line_claim (word ∷ fs) a = word_claim (word_of word) fs a.1

  pieces_claim :
      (ps : List (List ℕ)) → AllOf Fine ps → Both Claim (lines_of_pieces decimal ps) (lines_of_pieces number ps)
  unfolding lines_of_pieces
  pieces_claim [] a = tt
  pieces_claim ([] ∷ []) a = tt
  pieces_claim ((b ∷ bs) ∷ []) a = (same Bad, tt)
  pieces_claim (p ∷ q ∷ ps) a = (line_claim (fields_of p) a.0, pieces_claim (q ∷ ps) a.1)

-- Where no field begins with 0x.
abbrev Plain : List ℕ → Type 0
Plain f = begins_hex f ≡ false

plain_step :
    (f : List ℕ) → Plain f → (more other : ℕ → Line) → ((n : ℕ) → more n ≡ other n)
    → given (decimal f) more ≡ given (number f) other
plain_step f e more other h = rw (decimal_kept f e) (go (decimal f))
  where
    go : (n : Option ℕ) → given n more ≡ given n other
    go (Some v) = h v
    go None = refl

plain_fields : (fs : List (List ℕ)) → no_field fs ≡ true → All Plain fs
unfolding no_field
plain_fields [] e = tt
plain_fields (f ∷ fs) e = (
  not-true (begins_hex f) (and_left (not (begins_hex f)) (no_field fs) e),
  plain_fields fs (and_right (not (begins_hex f)) (no_field fs) e),
)

plain_lines : (ps : List (List ℕ)) → no_line ps ≡ true → AllOf Plain ps
unfolding no_line
plain_lines [] e = tt
plain_lines (p ∷ ps) e = (
  plain_fields (fields_of p) (and_left (no_field (fields_of p)) (no_line ps) e),
  plain_lines ps (and_right (no_field (fields_of p)) (no_line ps) e),
)

both_equal : (ls ms : List Line) → Both (λ l m. l ≡ m) ls ms → ls ≡ ms
both_equal [] [] h = refl
both_equal [] (m ∷ ms) h = absurd h
both_equal (l ∷ ls) [] h = absurd h
both_equal (l ∷ ls) (m ∷ ms) h = rw (h.0, both_equal ls ms h.1)

pub decimal_lines : (text : List ℕ) → is_decimal text ≡ true → lines_by decimal text ≡ lines_by number text
unfolding lines_by
decimal_lines text e =
    both_equal _ _
    (pieces_claim (λ l m. l ≡ m) Plain (λ l. refl) plain_step (cut line_end text) (plain_lines (cut line_end text) e))

-- A line that was not bad is as it was.
abbrev pub Kept : Line → Line → Type 0
Kept was is = (was ≡ Bad → ⊥) → is ≡ was

kept_step :
    (f : List ℕ) → Unit {0} → (more other : ℕ → Line) → ((n : ℕ) → Kept (more n) (other n))
    → Kept (given (decimal f) more) (given (number f) other)
kept_step f u more other h = go (decimal f) refl
  where
    go : (n : Option ℕ) → decimal f ≡ n → Kept (given n more) (given (number f) other)
    go (Some v) e d = rw (value_kept f v e) (h v d)
    go None e d = absurd (d refl)

all_fine : (fs : List (List ℕ)) → All (λ f. Unit {0}) fs
all_fine [] = tt
all_fine (f ∷ fs) = (tt, all_fine fs)

all_of_fine : (ps : List (List ℕ)) → AllOf (λ f. Unit {0}) ps
all_of_fine [] = tt
all_of_fine (p ∷ ps) = (all_fine (fields_of p), all_of_fine ps)

pub lines_kept : (text : List ℕ) → Both Kept (lines_by decimal text) (lines_by number text)
unfolding lines_by
lines_kept text = pieces_claim Kept (λ f. Unit {0}) (λ l d. refl) kept_step (cut line_end text) (all_of_fine (cut line_end text))
