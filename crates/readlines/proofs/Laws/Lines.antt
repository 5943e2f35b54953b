-- The lines from a place on: the line at that place, and those after its end. From how a text is cut at a place.
use Prim.Native.Nat.{ℕ, ◌+◌, ◌<◌, ◌≤◌}
use mathlib.Core.Path.{◌≡◌, refl, ◌∙◌, ap}
use mathlib.Core.Bool.{cond}
use mathlib.Core.List.{List, [], ◌∷◌}
use native.Mathlib.Omega.{arith}
use native.Mathlib.Decide.{dec_lt}
use borrow.Author.Tests.{lt-ltb, le-ltb}
use lib.Dec.{ltb}
use lib.ListN.{length, drop, drop_of_length-le}
use Rattle.text.specs.Cut.{cut, fields_of, line_end}
use Rattle.text.specs.Lines.{line_of, lines_of_pieces, lines_by, lines_of}
use Rattle.text.specs.Number.{number}
use Rattle.text.specs.Places.{piece_at, end_at}
use Rattle.text.specs.declared.line.Line.{Line}
use Rattle.text.specs.declared.line.Line.TheVariants.{Bad}
use Rattle.text.specs.Readers.{line_at}
use Rattle.text.proofs.Laws.Cut.{cut_at}

-- The lines from a place on.
unfoldable pub lines_from : List ℕ → ℕ → List Line
lines_from text at = lines_of_pieces number (cut line_end (drop at text))

pub lines_all : (text : List ℕ) → lines_of text ≡ lines_from text 0
unfolding lines_by lines_from
lines_all text = refl

-- A list of pieces is never empty.
pieces_some : (text : List ℕ) (at : ℕ) (p : List ℕ) → lines_of_pieces number (p ∷ cut line_end (drop at text)) ≡ line_of (fields_of p) ∷ lines_from text at
unfolding lines_of_pieces lines_from
pieces_some text at p = rw (cut_at line_end text at)

module _ (text : List ℕ) (at : ℕ) where
  -- The lines past the line at the place, if it has an end.
  abbrev pub lines_past : List Line
  lines_past = cond (ltb (end_at line_end text at) (length text)) (lines_from text (end_at line_end text at + 1)) []

  -- A line with no end, which is not empty, is bad.
  open_bad : (p : List ℕ) → 0 < length p → lines_of_pieces number (p ∷ []) ≡ Bad ∷ []
  unfolding lines_of_pieces
  open_bad [] l = absurd (omega arith)
  open_bad (b ∷ bs) l = refl

  pub line_next : at < length text → lines_from text at ≡ line_at text at ∷ lines_past
  unfolding line_at lines_from end_at
  line_next h = go (dec_lt (end_at line_end text at) (length text))
    where
      go : Dec (end_at line_end text at < length text) → lines_from text at ≡ line_at text at ∷ lines_past
      go (yes e) =
          ap (lines_of_pieces number) (cut_at line_end text at ∙ rw (lt-ltb (end_at line_end text at) (length text) e))
          ∙ pieces_some text (end_at line_end text at + 1) (piece_at line_end text at)
          ∙ rw (lt-ltb (end_at line_end text at) (length text) e)
      go (no e) =
          ap (lines_of_pieces number) (cut_at line_end text at ∙ rw (le-ltb (end_at line_end text at) (length text) (omega arith)))
          ∙ open_bad (piece_at line_end text at) (omega arith)
          ∙ rw (le-ltb (end_at line_end text at) (length text) (omega arith))

  pub lines_end : length text ≤ at → lines_from text at ≡ []
  unfolding lines_from lines_of_pieces cut
  lines_end h = rw (drop_of_length-le text h)
