-- What stands at a place of a text: the piece up to the next separator, and the line.
use Rattle.std.specs.Prelude.{ℕ, ◌+◌, Bool, true, ◌&&◌, not, List, [], ◌∷◌, length, take, drop, eqb}
use Rattle.text.specs.Cut.{cut, tab, line_end}

abbrev pub first : List (List ℕ) → List ℕ
first [] = []
first (p ∷ ps) = p

-- From a place to the next separator, or to the end.
unfoldable pub piece_at : ℕ → List ℕ → ℕ → List ℕ
piece_at separator text at = first (cut separator (drop at text))

-- The place of that separator, or the end.
unfoldable pub end_at : ℕ → List ℕ → ℕ → ℕ
end_at separator text at = at + length (piece_at separator text at)

-- The text up to the end of the line in which a place stands.
abbrev pub up_to : List ℕ → ℕ → List ℕ
up_to text at = take (end_at line_end text at) text

-- Whether no separator stands among bytes, so that they can be one field.
unfoldable pub unparted : List ℕ → Bool
unparted [] = true
unparted (b ∷ bs) = not (eqb b tab) && not (eqb b line_end) && unparted bs
