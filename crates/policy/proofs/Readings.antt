-- What every answer of reading a text has: a refusal names a line of the text, or none, and comes with the record of zeros; an accepted record is
-- sound. By induction on the lines.
use Prim.Native.Nat.{ℕ, suc, ◌+◌, ◌≤◌}
use mathlib.Core.Path.{◌≡◌, refl, ap}
use mathlib.Core.Bool.{Bool, true, false, cond}
use mathlib.Core.List.{List, [], ◌∷◌}
use native.Mathlib.Omega.{arith}
use borrow.Author.Tests.{ltb-false}
use lib.Dec.{eqb}
use lib.ListN.{length}
use Rattle.std.specs.Prelude.{Err}
use Rattle.text.specs.Cut.{cut, onto, line_end}
use Rattle.text.specs.Lines.{lines_of, lines_by, lines_of_pieces}
use Rattle.text.specs.Number.{number}
use Rattle.text.specs.declared.line.Line.{Line}
use Rattle.policy.specs.declared.record.Key.{Key}
use Rattle.policy.specs.declared.record.Refusal.TheVariants.{TooLong}
use Rattle.policy.specs.Limits.{Limits}
use Rattle.policy.specs.View.{View}
use Rattle.policy.specs.Tables.{zeros, view_of}
use Rattle.policy.specs.Draft.{Draft, begun, after}
use Rattle.policy.specs.Refusals.{Verdict, is_accepted, line_number_of}
use Rattle.policy.specs.Read.{too_long, line_rules, line_refusal, whole_rules, whole_refusal, Answer, answer, read_lines, read_lines_by, read_by, read_of}
use Rattle.policy.specs.Sound.{Sound}
use Rattle.policy.proofs.Laws.First.{first-has, is_accepted_lem}

-- How many lines a text has.
cut-length : (l : List ℕ) → length (cut line_end l) ≤ length l + 1
unfolding cut
cut-length [] = omega arith
cut-length (b ∷ l) = go (eqb b line_end) (cut line_end l) (cut-length l)
  where
    go : (t : Bool) (ps : List (List ℕ)) → length ps ≤ length l + 1 → length (cond t ([] ∷ ps) (onto b ps)) ≤ suc (length l) + 1
    go true ps h = omega arith
    go false [] h = omega arith
    go false (p ∷ ps) h = omega arith

pieces_length : (ps : List (List ℕ)) → length (lines_of_pieces number ps) ≤ length ps
unfolding lines_of_pieces
pieces_length [] = omega arith
pieces_length ([] ∷ []) = omega arith
pieces_length ((b ∷ bs) ∷ []) = omega arith
pieces_length (p ∷ q ∷ ps) = let h = pieces_length (q ∷ ps) in omega arith

lines_length : (text : List ℕ) → length (lines_of text) ≤ length text + 1
unfolding lines_by
lines_length text = omega (arith, pieces_length (cut line_end text), cut-length text)

-- What a refusal may name.
whole_line : (v : View) → line_number_of (whole_refusal v) ≡ 0
unfolding whole_refusal
whole_line v = first-has (λ r. line_number_of r ≡ 0) (whole_rules v) refl (refl, (refl, (refl, (refl, tt))))

line_line : (limits : Limits) (n : ℕ) (before : Key) (v : View) (line : Line) → line_number_of (line_refusal limits n before v line) ≤ n
unfolding line_refusal
line_line limits n before v line =
    first-has (λ r. line_number_of r ≤ n) (line_rules limits n before v line) (omega arith)
    (omega arith, (omega arith, (omega arith, (omega arith, tt))))

-- What holds of an answer: the number of a line that it may name, and the record of a refusal.
record Answered (limits : Limits) (most : ℕ) (a : Answer) : Type 0 where
  named : line_number_of a.refusal ≤ most
  empty : is_accepted a.refusal ≡ false → a.tables ≡ zeros limits

module _ (limits : Limits) where
  -- after the lines from the n-th on
  answered : (lines : List Line) (n : ℕ) (d : Draft) → Answered limits (n + length lines) (read_lines limits n d lines)
  unfolding read_lines_by
  answered [] n d =
      record {
        named = rw (whole_line (view_of d.tables)) (omega arith);
        empty = λ h. rw h;
      }
  answered (line ∷ lines) n d = go (is_accepted refusal) refl (answered lines (n + 1) (after d line))
    where
      refusal : Verdict
      refusal = line_refusal limits n d.before (view_of d.tables) line

      rest : Answer
      rest = read_lines limits (n + 1) (after d line) lines

      go : (b : Bool) → is_accepted refusal ≡ b → Answered limits (n + 1 + length lines) rest →
          Answered limits (n + suc (length lines)) (cond b rest (answer limits refusal (zeros limits)))
      go true e h = record { named = omega (arith, h.named); empty = h.empty }
      go false e h = record { named = omega (arith, line_line limits n d.before (view_of d.tables) line); empty = λ f. rw e }

  text_answered : (text : List ℕ) → Answered limits (limits.text + 2) (read_of limits text)
  unfolding read_by
  text_answered text = go (too_long limits text) refl
    where
      go : (b : Bool) → too_long limits text ≡ b →
          Answered limits (limits.text + 2) (cond b (answer limits (Err TooLong) (zeros limits)) (read_lines limits 1 (begun limits) (lines_of text)))
      go true e = record { named = omega arith; empty = λ h. refl }
      go false e =
          let h = answered (lines_of text) 1 (begun limits) in
          record { named = omega (arith, h.named, lines_length text, ltb-false limits.text (length text) e); empty = h.empty }

  pub line_named : (text : List ℕ) → line_number_of (read_of limits text).refusal ≤ limits.text + 2
  line_named text = (text_answered text).named

  -- "A refusal returns number, line and the record of zeros."
  pub refused_zeros : (text : List ℕ) → is_accepted (read_of limits text).refusal ≡ false → (read_of limits text).tables ≡ zeros limits
  refused_zeros text = (text_answered text).empty

  pub accepted_sound : (text : List ℕ) → is_accepted (read_of limits text).refusal ≡ true → Sound limits (read_of limits text).tables
  accepted_sound text h =
      let t = (read_of limits text).tables in
      record { text = text; gives = ap (λ (r : Verdict). record { refusal = r; tables = t }) (is_accepted_lem (read_of limits text).refusal h) }
