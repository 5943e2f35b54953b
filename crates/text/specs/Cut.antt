-- 01, "The policy text": "Lines end in hex 0A, the last one too. Fields are parted by one tab."
use Rattle.std.specs.Prelude.{ℕ, cond, List, [], ◌∷◌, eqb}

-- A byte in front of the first piece.
abbrev pub onto : ℕ → List (List ℕ) → List (List ℕ)
onto b [] = (b ∷ []) ∷ []
onto b (p ∷ ps) = (b ∷ p) ∷ ps

-- What stands between the separators, in order: one piece more than there are separators.
unfoldable pub cut : ℕ → List ℕ → List (List ℕ)
cut separator [] = [] ∷ []
cut separator (b ∷ bs) = let rest = cut separator bs in cond (eqb b separator) ([] ∷ rest) (onto b rest)

abbrev pub tab : ℕ
tab = 0x09

abbrev pub line_end : ℕ
line_end = 0x0a

-- "Fields are parted by one tab."
abbrev pub fields_of : List ℕ → List (List ℕ)
fields_of line = cut tab line
