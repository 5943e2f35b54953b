-- A field is a word that has no separator in it, with this separator behind it, just if the text goes on with the word
-- and the separator: one byte at a time, since no byte of the word ends a field.
use Prim.Native.Nat.{ℕ, ◌+◌, ◌-◌, ◌≤◌}
use mathlib.Core.Path.{◌≡◌, refl, sym, ◌∙◌, ap}
use mathlib.Core.Bool.{Bool, true, false, ◌&&◌, ◌||◌, not, true≢false, cond, and-false}
use mathlib.Core.List.{List, [], ◌∷◌, ◌++◌}
use native.Mathlib.Omega.{arith}
use borrow.Author.Tests.{eq-eqb, ne_eqb, eqb-true, eqb-false}
use lib.Dec.{eqb}
use lib.ListN.{length, drop, length-append, length-drop, drop_of_length-le}
use Rattle.std.proofs.Common.{take_all}
use Rattle.std.specs.List.{starts_with, slice_range}
use Rattle.std.specs.Prelude.{Option, None}
use Rattle.text.proofs.Laws.Bools.{and_left, and_right}
use Rattle.text.proofs.Laws.Bytes.{same_equal}
use Rattle.text.proofs.Laws.Ends.{field_in, field_nil}
use Rattle.text.proofs.Laws.Stops.{parts, stop_in, field_is, end_is, stop_is, field_parts, field_goes, stop_parts}
use Rattle.text.proofs.Laws.Stops.{stop_nil, stop_goes, parts_some}
use Rattle.text.specs.Bytes.{same}
use Rattle.text.specs.Cut.{tab, line_end}
use Rattle.text.specs.Places.{unparted}
use Rattle.text.specs.Readers.{field_at, field_end, stop_at, past_field, found}
use Rattle.text.specs.Readers.{field_read}
use Rattle.text.specs.declared.line.Cursor.{Cursor}

-- Bytes one of which ends a field and one of which does not.
parted_ne : (a b : ℕ) → parts a ≡ true → parts b ≡ false → eqb a b ≡ false
parted_ne a b h k = ne_eqb a b (λ e. true≢false (sym h ∙ ap parts e ∙ k))

ne_parted : (a b : ℕ) → parts a ≡ false → parts b ≡ true → eqb a b ≡ false
ne_parted a b h k = ne_eqb a b (λ e. true≢false (sym k ∙ ap parts (sym e) ∙ h))

eqb_turned : (a b : ℕ) → eqb a b ≡ eqb b a
eqb_turned a b = go (eqb a b) refl
  where
    go : (t : Bool) → eqb a b ≡ t → t ≡ eqb b a
    go true e = rw (eq-eqb b a (sym (eqb-true a b e)))
    go false e = rw (ne_eqb b a (λ q. eqb-false a b e (sym q)))

plain_is : (y : ℕ) → not (eqb y tab) && not (eqb y line_end) ≡ true → parts y ≡ false
plain_is y = go (eqb y tab) (eqb y line_end)
  where
    go : (t u : Bool) → not t && not u ≡ true → t || u ≡ false
    go true u h = absurd (true≢false (sym h))
    go false true h = absurd (true≢false (sym h))
    go false false h = refl

swapped : (a b c : Bool) → a && (b && c) ≡ b && (a && c)
swapped true b c = refl
swapped false true c = refl
swapped false false c = refl

module _ (end : ℕ) (p : parts end ≡ true) where
  -- The word behind which the separator stands.
  abbrev ended : List ℕ → List ℕ
  ended w = w ++ end ∷ []

  abbrev is : List ℕ → List ℕ → Bool
  is l w = eqb (stop_in l) end && same (field_in l) w

  stop_stands : (l : List ℕ) → starts_with eqb l (end ∷ []) ≡ is l []
  unfolding same
  stop_stands [] = rw (stop_nil, parts_some end p)
  stop_stands (x ∷ l) = go (parts x) refl
    where
      go : (t : Bool) → parts x ≡ t → eqb end x && true ≡ is (x ∷ l) []
      go true e = rw (field_parts x l e, stop_parts x l e, eqb_turned end x)
      go false e = rw (field_goes x l e, parted_ne end x p e, and-false)

  word_stands : (w l : List ℕ) → unparted w ≡ true → starts_with eqb l (ended w) ≡ is l w
  unfolding same unparted
  word_stands [] l h = stop_stands l
  word_stands (y ∷ w) [] h = rw (field_nil, and-false)
  word_stands (y ∷ w) (x ∷ l) h =
      let here = not (eqb y tab) && not (eqb y line_end) in
      byte (plain_is y (and_left here (unparted w) h)) (word_stands w l (and_right here (unparted w) h)) (parts x) refl
    where
      byte :
          parts y ≡ false → starts_with eqb l (ended w) ≡ is l w → (t : Bool) → parts x ≡ t
          → eqb y x && starts_with eqb l (ended w) ≡ is (x ∷ l) (y ∷ w)
      byte plain more true e = rw (field_parts x l e, ne_parted y x plain e, and-false)
      byte plain more false e =
          rw (field_goes x l e, stop_goes x l e, more, eqb_turned y x)
          (swapped (eqb x y) (eqb (stop_in l) end) (same (field_in l) w))

  -- A word with the separator behind it is a field.
  word_whole :
      (w later : List ℕ) → unparted w ≡ true
      → (field_in (w ++ end ∷ later) ≡ w) × (stop_in (w ++ end ∷ later) ≡ end)
  unfolding unparted
  word_whole [] later h = (field_parts end later p, stop_parts end later p)
  word_whole (y ∷ w) later h =
      let here = not (eqb y tab) && not (eqb y line_end) in
      let plain = plain_is y (and_left here (unparted w) h) in
      let more = word_whole w later (and_right here (unparted w) h) in
      let rest = w ++ end ∷ later in
      (field_goes y rest plain ∙ ap (λ l. y ∷ l) more.0, stop_goes y rest plain ∙ more.1)

  pub word_read_lem :
      {T : Type 0} (read : List ℕ → Option T) (text : List ℕ) (c : Cursor) (w later : List ℕ) → unparted w ≡ true
      → drop c.at text ≡ w ++ end ∷ later
      → field_read read end text c ≡ found (read w) (record { at = c.at + length w + 1; line = c.line }) c
  unfolding field_read
  word_read_lem read text c w later h e =
      let whole = word_whole w later h in
      rw (
        stop_is text c.at,
        field_is text c.at,
        end_is text c.at,
        e,
        whole.0,
        whole.1,
        eq-eqb end end refl,
      )

-- The field at a place, by the word and the separator that stand there, or by their not standing there.
module _ (text : List ℕ) (c : Cursor) where
  abbrev field : List ℕ
  field = field_at text c.at

  abbrev stop : ℕ
  stop = stop_at text c.at

  module _ (end : ℕ) (p : parts end ≡ true) where
    past_stop : length text ≤ c.at → eqb stop end ≡ false
    past_stop h = rw (stop_is text c.at, drop_of_length-le text h, stop_nil, parts_some end p)

    -- Nothing is found behind the text, and where the field there says nothing.
    pub field_past :
        {T : Type 0} (read : List ℕ → Option T) → length text ≤ c.at
        → record { said = None; next = c } ≡ field_read read end text c
    unfolding field_read
    field_past read h = rw (past_stop h)

    pub field_none :
        {T : Type 0} (read : List ℕ → Option T) → (eqb stop end ≡ true → read field ≡ None)
        → record { said = None; next = c } ≡ field_read read end text c
    unfolding field_read
    field_none {T} read h = go (eqb stop end) refl
      where
        go :
            (t : Bool) → eqb stop end ≡ t
            → record { said = None; next = c } ≡ found (cond t (read field) None) (past_field text c) c
        go true e = rw (h e)
        go false e = refl

    module _ (word : List ℕ) (plain : unparted word ≡ true) where
      abbrev whole : List ℕ
      whole = word ++ end ∷ []

      abbrev past : Cursor
      past = record { at = c.at + length whole; line = c.line }

      -- What is left of the text, and whether it begins so.
      module _
          {rest : List ℕ} (is : rest ≡ slice_range text c.at (length text)) {begins : Bool}
          (told : begins ≡ starts_with eqb rest whole) where
        field_told : begins ≡ eqb stop end && same field word
        field_told =
            told
            ∙ rw (is, take_all (length text - c.at) (drop c.at text) (omega (arith, length-drop c.at text)), stop_is text c.at, field_is text c.at)
            (word_stands end p word (drop c.at text) plain)

        pub field_other : begins ≡ false → eqb stop end ≡ true → same field word ≡ false
        field_other h e = sym (rw e at field_told) ∙ h

        module _ (h : begins ≡ true) where
          stop_here : eqb stop end ≡ true
          stop_here = and_left (eqb stop end) (same field word) (sym field_told ∙ h)

          field_here : field ≡ word
          field_here = same_equal field word (and_right (eqb stop end) (same field word) (sym field_told ∙ h))

          past_here : past ≡ past_field text c
          past_here =
              let q : c.at + length whole ≡ field_end text c.at + 1 =
              omega (
                arith,
                end_is text c.at,
                ap length (sym (field_is text c.at) ∙ field_here),
                length-append word (end ∷ []),
              ) in
              ap (λ (k : ℕ). record { at = k; line = c.line }) q

          pub field_known : {T : Type 0} (read : List ℕ → Option T) → found (read word) past c ≡ field_read read end text c
          unfolding field_read
          field_known read = rw (stop_here, field_here, past_here)
