-- Digits are neither tab nor line end, so a field goes on where its digits stop, with a byte that is none, or is just
-- those digits. For every proper notation.
use Prim.Native.Nat.{ℕ, ◌+◌, ◌-◌, ◌<◌, ◌≤◌}
use mathlib.Core.Path.{◌≡◌, refl, sym, ◌∙◌, ap}
use mathlib.Core.Bool.{Bool, true, false, ◌&&◌, ◌||◌, cond}
use mathlib.Core.List.{List, [], ◌∷◌, ◌++◌, append-nil}
use native.Mathlib.Nat.{add-zero, add-sub_cancel_left}
use native.Mathlib.Omega.{arith}
use borrow.Author.Tests.{leb-true}
use lib.Dec.{eqb, leb, ltb}
use lib.ListN.{length, drop, get_or, length-append, length-drop}
use lib.Seq.{get_or-drop}
use Rattle.std.specs.Prelude.{Some, None}
use Rattle.text.proofs.Laws.Bools.{and_left, and_right}
use Rattle.text.proofs.Laws.Ends.{field_in, field_nil, field_tab, field_line, field_more, field_within}
use Rattle.text.proofs.Laws.Stops.{parts, stop_in, field_none}
use Rattle.text.proofs.Laws.Numbers.{Proper, zero_is, written_empty, written_long, written_led, written_other}
use Rattle.text.proofs.Laws.Numbers.{written_is, value_fits}
use Rattle.text.specs.Digits.{digits_in, digits_read}
use Rattle.text.specs.declared.read.Digits.{Digits}
use Rattle.text.specs.Cut.{line_end}
use Rattle.text.specs.Number.{Notation, ten, sixteen, zero_to_nine, a_to_f, written, all_digits, leading_zero}

pub nine : (b : ℕ) → zero_to_nine b ≡ true → (0x30 ≤ b) × (b ≤ 0x39)
nine b e =
    (leb-true 0x30 b (and_left (leb 0x30 b) (leb b 0x39) e), leb-true b 0x39 (and_right (leb 0x30 b) (leb b 0x39) e))

letter : (b : ℕ) → a_to_f b ≡ true → (0x61 ≤ b) × (b ≤ 0x66)
letter b e =
    (leb-true 0x61 b (and_left (leb 0x61 b) (leb b 0x66) e), leb-true b 0x66 (and_right (leb 0x61 b) (leb b 0x66) e))

pub proper_ten : Proper ten
proper_ten =
    record {
      above = λ b e. omega (arith, nine b e);
      small = λ b e. omega (arith, nine b e);
      some = omega arith;
      fits = omega arith;
    }

-- A hexadecimal digit by its two kinds.
hex_cases : (b : ℕ) (P : Bool → Type 0) → (zero_to_nine b ≡ true → P true) → (a_to_f b ≡ true → P false)
    → sixteen.is_digit b ≡ true → P (zero_to_nine b)
hex_cases b P one other = go (zero_to_nine b) refl
  where
    go : (t : Bool) → zero_to_nine b ≡ t → t || a_to_f b ≡ true → P t
    go true e h = one e
    go false e h = other h

pub proper_sixteen : Proper sixteen
proper_sixteen =
    record {
      above = λ b. hex_cases b (λ t. line_end < b) (λ e. omega (arith, nine b e)) (λ e. omega (arith, letter b e));
      small =
          λ b.
          hex_cases b (λ t. cond t (b - 0x30) (10 + (b - 0x61)) < 16) (λ e. omega (arith, nine b e))
          (λ e. omega (arith, letter b e));
      some = omega arith;
      fits = omega arith;
    }

-- The digits in front of bytes: digits, and the first of them is the first byte.
module _ (form : Notation) where
  digits_all : (l : List ℕ) → all_digits form (digits_in form l) ≡ true
  unfolding digits_in all_digits
  digits_all [] = refl
  digits_all (x ∷ l) = go (form.is_digit x) refl (digits_all l)
    where
      go :
          (t : Bool) → form.is_digit x ≡ t → all_digits form (digits_in form l) ≡ true
          → all_digits form (cond t (x ∷ digits_in form l) []) ≡ true
      go true e h = rw (e, h)
      go false e h = refl

  digits-first : (l : List ℕ) → 0 < length (digits_in form l) → get_or (digits_in form l) 0 0 ≡ get_or l 0 0
  unfolding digits_in
  digits-first [] h = refl
  digits-first (x ∷ l) h = go (form.is_digit x) h
    where
      go : (t : Bool) → (let d = cond t (x ∷ digits_in form l) [] in 0 < length d → get_or d 0 0 ≡ x)
      go true h = refl
      go false h = absurd (omega arith)

-- A field that is not empty begins with the first byte.
not_empty : (x : ℕ) (l : List ℕ) → 0 < length (field_in (x ∷ l)) → field_in (x ∷ l) ≡ x ∷ field_in l
not_empty x l h =
    field_more x l (λ e. omega (arith, ap length (field_tab x l e))) (λ e. omega (arith, ap length (field_line x l e)))

module _ (form : Notation) (p : Proper form) where
  -- A digit goes on with the field.
  is_digit_lem : (x : ℕ) (l : List ℕ) → form.is_digit x ≡ true → field_in (x ∷ l) ≡ x ∷ field_in l
  is_digit_lem x l e = let h = p.above x e in field_more x l (λ q. omega arith) (λ q. omega arith)

  -- The field is its digits, and what stands from there to its end.
  digits-field : (l : List ℕ) → field_in l ≡ digits_in form l ++ field_in (drop (length (digits_in form l)) l)
  unfolding digits_in
  digits-field [] = refl
  digits-field (x ∷ l) = go (form.is_digit x) refl (digits-field l)
    where
      go :
          (t : Bool) → form.is_digit x ≡ t
          → field_in l ≡ digits_in form l ++ field_in (drop (length (digits_in form l)) l)
          → (let d = cond t (x ∷ digits_in form l) [] in field_in (x ∷ l) ≡ d ++ field_in (drop (length d) (x ∷ l)))
      go true e h = is_digit_lem x l e ∙ ap (λ f. x ∷ f) h
      go false e h = refl

  -- What stands there is no digit.
  goes_on : (l : List ℕ) → 0 < length (field_in (drop (length (digits_in form l)) l)) → all_digits form (field_in l) ≡ false
  unfolding digits_in all_digits
  goes_on [] h = absurd (omega (arith, ap length field_nil))
  goes_on (x ∷ l) h = go (form.is_digit x) refl (goes_on l) h
    where
      go :
          (t : Bool) → form.is_digit x ≡ t
          → (0 < length (field_in (drop (length (digits_in form l)) l)) → all_digits form (field_in l) ≡ false)
          → (let d = cond t (x ∷ digits_in form l) [] in 0 < length (field_in (drop (length d) (x ∷ l))))
          → all_digits form (field_in (x ∷ l)) ≡ false
      go true e more h = rw (is_digit_lem x l e, e) (more h)
      go false e more h = rw (not_empty x l h, e)

  -- The digits at a place, and how far the field goes on after them.
  module _ (text : List ℕ) (from : ℕ) {d : Digits} (e : d ≡ digits_read form text from) where
    abbrev ahead : List ℕ
    ahead = drop from text

    abbrev digits : List ℕ
    digits = digits_in form ahead

    abbrev left : List ℕ
    left = field_in (drop (length digits) ahead)

    end_is : d.end ≡ from + length digits
    unfolding digits_read
    end_is = ap (λ r. r.end) e

    stop_is : d.stop ≡ get_or ahead (length digits) 0
    unfolding digits_read
    stop_is = ap (λ r. r.stop) e

    pub digits_least : from ≤ d.end
    digits_least = omega (arith, end_is)

    pub digits_within : from ≤ length text → d.end ≤ length text
    digits_within h =
        omega (
          arith,
          end_is,
          ap length (digits-field ahead) ∙ length-append digits left,
          field_within ahead,
          length-drop from text,
        )

    -- Where nothing of the field is left, it is the digits, and the byte after them ends it.
    module _ (none : left ≡ []) where
      whole : field_in ahead ≡ digits
      whole = digits-field ahead ∙ ap (λ m. digits ++ m) none ∙ append-nil digits

      whole_stop : stop_in ahead ≡ d.stop
      unfolding stop_in
      whole_stop = rw (whole, stop_is)

    -- Another byte ends the field than the one after the digits.
    pub open_written : (stop_in ahead ≡ d.stop → ⊥) → written form (field_in ahead) ≡ None
    open_written f = go left refl
      where
        go : (m : List ℕ) → left ≡ m → written form (field_in ahead) ≡ None
        go [] q = absurd (f (whole_stop q))
        go (x ∷ m) q = written_other form (field_in ahead) (goes_on ahead (omega (arith, ap length q)))

    -- The byte after the digits ends a field.
    module _ (f : parts d.stop ≡ true) where
      nothing : left ≡ []
      nothing =
          let first : get_or (drop (length digits) ahead) 0 0 ≡ d.stop =
          get_or-drop (length digits) ahead 0 0
          ∙ ap (λ (k : ℕ). get_or ahead k 0) (add-zero (length digits))
          ∙ sym stop_is in
          field_none (drop (length digits) ahead) (ap parts first ∙ f)

      pub ended_stop : stop_in ahead ≡ d.stop
      ended_stop = whole_stop nothing

      pub ended_end : from + length (field_in ahead) ≡ d.end
      ended_end = rw (whole nothing, end_is)

      -- As many as are counted.
      module _ {n : ℕ} (m : n ≡ d.end - from) where
        count_is : n ≡ length digits
        count_is = m ∙ rw (end_is, add-sub_cancel_left)

        pub none_written : n < 1 → written form (field_in ahead) ≡ None
        none_written h = rw (whole nothing) (written_empty form digits (omega (arith, count_is)))

        pub many_written : form.most < n → written form (field_in ahead) ≡ None
        many_written h = rw (whole nothing) (written_long form digits (omega (arith, count_is)))

        module _ (some : 1 ≤ n) where
          zero_led : leading_zero digits ≡ eqb (get_or text from 0) 0x30 && ltb 1 n
          zero_led =
              zero_is digits (omega (arith, count_is))
              ∙ rw (
                digits-first form ahead (omega (arith, count_is)),
                get_or-drop from text 0 0,
                add-zero from,
                ← count_is,
              )

          pub led_written : eqb (get_or text from 0) 0x30 && ltb 1 n ≡ true → written form (field_in ahead) ≡ None
          led_written h = rw (whole nothing) (written_led form digits (zero_led ∙ h))

          pub fit_written :
              n ≤ form.most → eqb (get_or text from 0) 0x30 && ltb 1 n ≡ false
              → written form (field_in ahead) ≡ Some d.value
          unfolding digits_read
          fit_written h k =
              let most : length digits ≤ form.most = omega (arith, count_is) in
              rw (whole nothing)
              (written_is form digits (omega (arith, count_is)) most (digits_all form ahead) (zero_led ∙ k))
              ∙ ap Some
              (sym (value_fits form p digits (digits_all form ahead) most) ∙ sym (ap (λ r. r.value) e))
