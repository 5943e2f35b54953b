-- A field of a text ends at the first tab or line end: what is left of the text up to a line end, and of that up to a
-- tab, is made one byte at a time.
use Prim.Native.Nat.{ℕ, ◌+◌, ◌≤◌}
use mathlib.Core.Path.{◌≡◌, refl, ap, ◌∙◌}
use mathlib.Core.List.{List, [], ◌∷◌}
use native.Mathlib.Omega.{arith}
use borrow.Author.Tests.{eq-eqb}
use lib.ListN.{length, drop}
use Rattle.text.proofs.Laws.Cut.{first_here, first_more, piece_within, piece_front, drop-take}
use Rattle.text.specs.Cut.{cut, tab, line_end}
use Rattle.text.specs.Places.{up_to, first, piece_at, end_at}

-- The field in front of bytes.
unfoldable pub field_in : List ℕ → List ℕ
field_in l = first (cut tab (first (cut line_end l)))

pub field_nil : field_in [] ≡ []
unfolding field_in cut
field_nil = refl

module _ (x : ℕ) (l : List ℕ) where
  pub field_tab : x ≡ tab → field_in (x ∷ l) ≡ []
  unfolding field_in
  field_tab e = rw (first_more line_end x l (λ q. omega arith), first_here tab x (first (cut line_end l)) e)

  pub field_line : x ≡ line_end → field_in (x ∷ l) ≡ []
  unfolding field_in cut
  field_line e = rw (eq-eqb x line_end e)

  pub field_more : (x ≡ tab → ⊥) → (x ≡ line_end → ⊥) → field_in (x ∷ l) ≡ x ∷ field_in l
  unfolding field_in
  field_more d e = rw (first_more line_end x l e, first_more tab x (first (cut line_end l)) d)

pub field_within : (l : List ℕ) → length (field_in l) ≤ length l
unfolding field_in
field_within l = omega (arith, piece_within tab (first (cut line_end l)), piece_within line_end l)

-- The piece of a line at a place is the field in front of what is left of the text there.
module _ (text : List ℕ) (at : ℕ) where
  pub piece_field : piece_at tab (up_to text at) at ≡ field_in (drop at text)
  unfolding field_in piece_at end_at
  piece_field =
      let k = length (first (cut line_end (drop at text))) in
      ap (λ l. first (cut tab l)) (drop-take at k text ∙ piece_front line_end (drop at text))

  pub end_field : end_at tab (up_to text at) at ≡ at + length (field_in (drop at text))
  unfolding end_at
  end_field = ap (λ l. at + length l) piece_field
