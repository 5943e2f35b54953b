-- 02, S-4: "decimal texts give what they gave". The texts in which no field begins with 0x.
use Rattle.std.specs.Prelude.{ℕ, Bool, true, ◌&&◌, not, List, [], ◌∷◌}
use Rattle.text.specs.Cut.{cut, line_end, fields_of}
use Rattle.text.specs.Number.{begins_hex}

-- None of these fields.
unfoldable pub no_field : List (List ℕ) → Bool
no_field [] = true
no_field (f ∷ fs) = not (begins_hex f) && no_field fs

-- No field of these lines.
unfoldable pub no_line : List (List ℕ) → Bool
no_line [] = true
no_line (line ∷ lines) = no_field (fields_of line) && no_line lines

abbrev pub is_decimal : List ℕ → Bool
is_decimal text = no_line (cut line_end text)
