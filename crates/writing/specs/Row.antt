-- A row of a report: its word, and its numbers.
use Rattle.std.specs.Prelude.{ℕ, ◌<◌, List, [], ◌∷◌, ◌++◌, flat_map}
use Rattle.text.specs.Cut.{tab, line_end}
use Rattle.printer.specs.Decimal.{digits}

-- A number after a tab.
abbrev pub field : ℕ → List ℕ
field n = tab ∷ digits n

-- Numbers, each after a tab.
abbrev pub fields : List ℕ → List ℕ
fields ns = flat_map field ns

-- The numbers of a row, each after a tab, and the line's end.
abbrev pub numbers : List ℕ → List ℕ
numbers ns = fields ns ++ line_end ∷ []

-- Numbers of at most five digits.
abbrev pub Short : List ℕ → Type 0
Short [] = Unit {0}
Short (n ∷ ns) = (n < 100000) × Short ns
