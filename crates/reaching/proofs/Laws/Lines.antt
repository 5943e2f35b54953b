-- The report's lines as the loops write them, and how long they are.
use Prim.Native.Nat.{ℕ, zero, suc, ◌+◌, ◌*◌, ◌<◌, ◌≤◌}
use mathlib.Core.Path.{◌≡◌, refl, ap, ◌∙◌}
use mathlib.Core.Bool.{Bool, true, false, cond}
use mathlib.Core.List.{List, [], ◌∷◌, ◌++◌, append-nil, append_assoc}
use native.Mathlib.Nat.{zero-add, add-zero, add-suc, suc-add}
use native.Mathlib.Omega.{arith}
use lib.ListN.{length, get_or, length-append}
use Rattle.std.proofs.lemmas.Grind.{flat_map-append}
use Rattle.bits.specs.Masks.{has}
use Rattle.policy.specs.Below.{list_below}
use Rattle.policy.proofs.Laws.Lists.{list_long}
use Rattle.writing.specs.Row.{field, fields}
use Rattle.writing.proofs.Laws.Digits.{digits_width}
use Rattle.reach.specs.Rows.{those_below}
use Rattle.reaching.specs.Report.{segment_line, segment_lines}

-- A segment's number has at most two digits.
pub field_short : (s : ℕ) → s < 32 → length (field s) ≤ 3
field_short s l = omega (arith, digits_width 1 s (omega arith))

-- One source more, where the row has it.
module _ (test : ℕ → Bool) where
  pub source_more : (n : ℕ) → fields (those_below (suc n) test) ≡ fields (those_below n test) ++ cond (test n) (field n) []
  unfolding those_below
  source_more n =
      rw flat_map-append
      (ap (λ l. fields (those_below n test) ++ l) (go (test n)))
    where
      go : (b : Bool) → fields (cond b (n ∷ []) []) ≡ cond b (field n) []
      go true = append-nil (field n)
      go false = refl

  pub sources_short : (n : ℕ) → n ≤ 32 → length (fields (those_below n test)) ≤ 3 * n
  unfolding those_below
  sources_short zero l = omega arith
  sources_short (suc n) l = rw (source_more n, length-append) (go (test n) (sources_short n (omega arith)))
    where
      go : (b : Bool) → length (fields (those_below n test)) ≤ 3 * n →
          length (fields (those_below n test)) + length (cond b (field n) []) ≤ 3 * suc n
      go true h = omega (arith, field_short n (omega arith))
      go false h = omega arith

line_short : (t : ℕ) (row : List ℕ) → t < 32 → length (fields row) ≤ 96 → length (segment_line t row) ≤ 107
unfolding segment_line
line_short t row l h = simp length-append (omega (arith, field_short t l))

-- One line more.
lines_append : (t : ℕ) (a b : List (List ℕ)) → segment_lines t (a ++ b) ≡ segment_lines t a ++ segment_lines (t + length a) b
unfolding segment_lines
lines_append t [] b = rw add-zero
lines_append t (row ∷ a) b = rw (lines_append (suc t) a b, append_assoc, add-suc, suc-add)

module _ (row : ℕ → List ℕ) where
  pub line_more : (n : ℕ) → segment_lines 0 (list_below (suc n) row) ≡ segment_lines 0 (list_below n row) ++ segment_line n (row n)
  unfolding list_below segment_lines
  line_more n = lines_append 0 (list_below n row) (row n ∷ []) ∙ rw (zero-add, list_long row n, append-nil)

  lines_short : (n : ℕ) → ((t : ℕ) → t < n → length (segment_line t (row t)) ≤ 107) → length (segment_lines 0 (list_below n row)) ≤ 107 * n
  unfolding list_below segment_lines
  lines_short zero h = omega arith
  lines_short (suc n) h =
      rw (line_more n, length-append)
      (omega (arith, lines_short n (λ t l. h t (omega arith)), h n (omega arith)))

-- The rows by masks, each of at most 32 sources.
abbrev pub bit_row : List ℕ → ℕ → ℕ → List ℕ
bit_row rows n t = those_below n (has (get_or rows t 0))

pub rows_short : (rows : List ℕ) (n t : ℕ) → n ≤ 32 → t ≤ 32 → length (segment_lines 0 (list_below t (bit_row rows n))) ≤ 107 * t
rows_short rows n t h l =
    lines_short (bit_row rows n) t
    (λ u m. line_short u (bit_row rows n u) (omega arith) (omega (arith, sources_short (has (get_or rows u 0)) n h)))
