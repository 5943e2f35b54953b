-- What a call adds to what a writer has written, and what a report leaves.
use Rattle.std.specs.Prelude.{ℕ, ◌≡◌, ◌≤◌, List, ◌++◌, length, take, drop}
use Rattle.std.proofs.lemmas.List.Edits.{sets}
use Rattle.writing.specs.declared.writer.Writer.{Writer}

abbrev pub written : Writer → List ℕ
written w = take w.at w.out.now

-- The buffer behind it.
abbrev pub rest : Writer → List ℕ
rest w = drop w.at w.out.now

abbrev pub room : Writer → ℕ
room w = length (rest w)

pub record Adds (before : Writer) (bytes : List ℕ) (after : Writer) : Type 0 where
  pub same_buffer : after.out.ghost_name ≡ before.out.ghost_name
  pub text : written after ≡ written before ++ bytes
  pub untouched : rest after ≡ drop (length bytes) (rest before)

-- A report in a lent buffer: it begins with these bytes, at most so many, and a call answers how many; behind them it is as it was.
abbrev pub Filled : List ℕ → ℕ → List ℕ → List ℕ → ℕ → Type 0
Filled bytes most before after count = (count ≡ length bytes) × (count ≤ most) × (after ≡ sets before 0 bytes)
