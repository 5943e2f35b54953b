-- The field at a place, where it ends and the byte that ends it, by what is left of the text there.
use Prim.Native.Nat.{ℕ, ◌+◌}
use mathlib.Core.Path.{◌≡◌, refl, sym, ◌∙◌, ap}
use mathlib.Core.Bool.{Bool, true, false, ◌||◌, true≢false}
use mathlib.Core.List.{List, [], ◌∷◌}
use borrow.Author.Tests.{eqb-true, eqb-false}
use lib.Dec.{eqb}
use lib.ListN.{length, drop, get_or}
use lib.Seq.{get_or-drop}
use Rattle.text.proofs.Laws.Ends.{field_in, field_nil, field_tab, field_line, field_more, piece_field, end_field}
use Rattle.text.specs.Cut.{tab, line_end}
use Rattle.text.specs.Readers.{field_at, field_end, stop_at}

-- Whether a byte ends a field.
abbrev pub parts : ℕ → Bool
parts b = eqb b tab || eqb b line_end

-- The byte that ends the field in front of bytes.
unfoldable pub stop_in : List ℕ → ℕ
stop_in l = get_or l (length (field_in l)) 0

pub stop_nil : stop_in [] ≡ 0
unfolding stop_in
stop_nil = refl

module _ (text : List ℕ) (at : ℕ) where
  pub field_is : field_at text at ≡ field_in (drop at text)
  unfolding field_at
  field_is = piece_field text at

  pub end_is : field_end text at ≡ at + length (field_in (drop at text))
  unfolding field_end
  end_is = end_field text at

  pub stop_is : stop_at text at ≡ stop_in (drop at text)
  unfolding stop_at stop_in
  stop_is = ap (λ (k : ℕ). get_or text k 0) end_is ∙ sym (get_or-drop at text (length (field_in (drop at text))) 0)

-- By the first byte: one that ends a field, or one that the field goes on with.
module _ (x : ℕ) (l : List ℕ) where
  pub field_parts : parts x ≡ true → field_in (x ∷ l) ≡ []
  field_parts = go (eqb x tab) refl (eqb x line_end) refl
    where
      go : (t : Bool) → eqb x tab ≡ t → (u : Bool) → eqb x line_end ≡ u → t || u ≡ true → field_in (x ∷ l) ≡ []
      go true e u f h = field_tab x l (eqb-true x tab e)
      go false e true f h = field_line x l (eqb-true x line_end f)
      go false e false f h = absurd (true≢false (sym h))

  pub field_goes : parts x ≡ false → field_in (x ∷ l) ≡ x ∷ field_in l
  field_goes = go (eqb x tab) refl (eqb x line_end) refl
    where
      go : (t : Bool) → eqb x tab ≡ t → (u : Bool) → eqb x line_end ≡ u → t || u ≡ false → field_in (x ∷ l) ≡ x ∷ field_in l
      go true e u f h = absurd (true≢false h)
      go false e true f h = absurd (true≢false h)
      go false e false f h = field_more x l (eqb-false x tab e) (eqb-false x line_end f)

  pub stop_parts : parts x ≡ true → stop_in (x ∷ l) ≡ x
  unfolding stop_in
  stop_parts h = rw (field_parts h)

  pub stop_goes : parts x ≡ false → stop_in (x ∷ l) ≡ stop_in l
  unfolding stop_in
  stop_goes h = rw (field_goes h)

-- Where the first byte ends a field, the field is empty.
pub field_none : (l : List ℕ) → parts (get_or l 0 0) ≡ true → field_in l ≡ []
field_none [] h = field_nil
field_none (x ∷ l) h = field_parts x l h

-- 0 ends none.
pub parts_some : (b : ℕ) → parts b ≡ true → eqb 0 b ≡ false
parts_some b = go (eqb b tab) refl (eqb b line_end) refl
  where
    go : (t : Bool) → eqb b tab ≡ t → (u : Bool) → eqb b line_end ≡ u → t || u ≡ true → eqb 0 b ≡ false
    go true e u f h = rw (eqb-true b tab e)
    go false e true f h = rw (eqb-true b line_end f)
    go false e false f h = absurd (true≢false (sym h))
