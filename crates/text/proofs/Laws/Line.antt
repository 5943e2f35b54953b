-- The line at a place of a text: its record word, and after it the two or three fields that its kind has.
use Prim.Native.Nat.{ℕ, ◌+◌, ◌<◌}
use mathlib.Core.Path.{◌≡◌, refl, sym, ◌∙◌, ap}
use mathlib.Core.List.{List, []}
use native.Mathlib.Omega.{arith}
use native.Mathlib.Decide.{dec_lt}
use borrow.Author.Tests.{le-ltb}
use lib.ListN.{length}
use Rattle.std.specs.Prelude.{Option, Some, None}
use Rattle.text.proofs.Laws.Readers.{nothing, rest_bad, inner_read_lem, inner_none, last_read_lem, last_none, word_says}
use Rattle.text.proofs.Laws.Forward.{field_same}
use Rattle.text.specs.Cut.{tab, line_end}
use Rattle.text.specs.Lines.{next_field, last, word_of, line_of_kind, line_of}
use Rattle.text.specs.Number.{number}
use Rattle.text.specs.Places.{end_at}
use Rattle.text.specs.Readers.{Found, word_read, field_read, inner_read, line_at, line_found, line_read}
use Rattle.text.specs.Rest.{fields_from, rest_read, line_taken}
use Rattle.text.specs.declared.line.Cursor.{Cursor}
use Rattle.text.specs.declared.line.Kind.{Kind}
use Rattle.text.specs.declared.line.Line.{Line}
use Rattle.text.specs.declared.line.Line.TheVariants.{Bad, Segment, Partition, Right, Flow, Slot}

module _ (text : List ℕ) (c : Cursor) where
  -- A line is what its kind says of the fields after its record word; without one it is bad.
  module _ {w : Found Kind} (is : w ≡ word_read text c) where
    pub kind_none : w.said ≡ None → nothing ≡ rest_read line_of text c
    kind_none e = sym (word_says text c is ∙ rw e (rest_bad text w.next))

    pub kind_read :
        {k : Kind} (said : Option Line) (past : ℕ) → w.said ≡ Some k
        → line_taken said past w.next.line ≡ rest_read (line_of_kind number k) text w.next
        → line_taken said past c.line ≡ rest_read line_of text c
    kind_read said past e f =
        let same : w.next.line ≡ c.line = ap (λ r. r.next.line) is ∙ field_same text c word_of tab in
        ap (λ (n : ℕ). line_taken said past n) (sym same) ∙ f ∙ sym (word_says text c is ∙ rw e)

  -- The first of some fields is no number.
  pub first_none :
      (more : ℕ → List (List ℕ) → Line) → ((n : ℕ) → more n [] ≡ Bad) → {p : Found ℕ} → p ≡ inner_read text c
      → p.said ≡ None → nothing ≡ rest_read (λ fs. next_field number fs more) text c
  first_none more h is e = sym (inner_none text c number more is h e)

  -- Two fields, a number and one that is read so and ends the line.
  module _
      (read : List ℕ → Option ℕ) (said : ℕ → ℕ → Line) {p r : Found ℕ} (first : p ≡ inner_read text c) {a : ℕ}
      (is_a : p.said ≡ Some a) (second : r ≡ field_read read line_end text p.next) where
    abbrev two : List (List ℕ) → Line
    two fs = next_field number fs λ a fs. next_field read fs λ b fs. last fs (said a b)

    pub two_none : r.said ≡ None → nothing ≡ rest_read two text c
    two_none e = sym (inner_read_lem text c number _ first is_a ∙ last_none text p.next read _ second (λ n f fs. refl) e)

    pub two_read : {b : ℕ} → r.said ≡ Some b
        → line_found (said a b) (record { at = r.next.at; line = c.line + 1 }) ≡ rest_read two text c
    two_read e =
        let same : p.next.line ≡ c.line = ap (λ x. x.next.line) first ∙ field_same text c number _ in
        sym (inner_read_lem text c number _ first is_a ∙ last_read_lem text p.next read _ second e ∙ rw same)

-- Three fields: a number, and two after it.
module _
    (text : List ℕ) (c : Cursor) (read : List ℕ → Option ℕ) (said : ℕ → ℕ → ℕ → Line) {p q : Found ℕ}
    (first : p ≡ inner_read text c) {a : ℕ} (is_a : p.said ≡ Some a) (second : q ≡ inner_read text p.next) where
  abbrev three : List (List ℕ) → Line
  three fs = next_field number fs λ a fs. next_field number fs λ b fs. next_field read fs λ d fs. last fs (said a b d)

  pub second_none : q.said ≡ None → nothing ≡ rest_read three text c
  second_none e = first_none text p.next _ (λ n. refl) second e ∙ sym (inner_read_lem text c number _ first is_a)

  module _ {b : ℕ} (is_b : q.said ≡ Some b) {r : Found ℕ} (third : r ≡ field_read read line_end text q.next) where
    pub three_none : r.said ≡ None → nothing ≡ rest_read three text c
    three_none e =
        two_none text p.next read (said a) second is_b third e ∙ sym (inner_read_lem text c number _ first is_a)

    pub three_read : {d : ℕ} → r.said ≡ Some d
        → line_found (said a b d) (record { at = r.next.at; line = c.line + 1 }) ≡ rest_read three text c
    three_read {d} e =
        let same : p.next.line ≡ c.line = ap (λ x. x.next.line) first ∙ field_same text c number _ in
        ap (λ (n : ℕ). line_found (said a b d) (record { at = r.next.at; line = n + 1 })) (sym same)
        ∙ two_read text p.next read (said a) second is_b third e
        ∙ sym (inner_read_lem text c number _ first is_a)

module _ (text : List ℕ) (at n : ℕ) where
  -- The line at a place is what the rest of it there says.
  pub line_rest : rest_read line_of text (record { at = at; line = n }) ≡ line_read text at n
  unfolding line_read line_at rest_read fields_from
  line_rest = refl

  -- What is read says what the line says.
  pub line_says : (line_read text at n).line ≡ line_at text at
  unfolding line_read
  line_says = go (line_at text at) _
    where
      go : (l : Line) (past : Cursor) → (line_found l past).line ≡ l
      go Bad past = refl
      go (Segment id base size) past = refl
      go (Partition id code save) past = refl
      go (Right partition segment mode) past = refl
      go (Flow from to) past = refl
      go (Slot partition ticks) past = refl

  -- A line that is not bad ends in hex 0A, and the place is left past that, on the next line.
  abbrev Left : Type 0
  Left =
      (end_at line_end text at < length text)
      × ((line_read text at n).next ≡ record { at = end_at line_end text at + 1; line = n + 1 })

  pub line_left : (line_at text at ≡ Bad → ⊥) → Left
  unfolding line_at line_read
  line_left d = (ended (dec_lt (end_at line_end text at) (length text)), go (line_at text at) _ d)
    where
      ended : Dec (end_at line_end text at < length text) → end_at line_end text at < length text
      ended (yes h) = h
      ended (no h) = absurd (d (rw (le-ltb (end_at line_end text at) (length text) (omega arith))))

      go : (l : Line) (past : Cursor) → (l ≡ Bad → ⊥) → (line_found l past).next ≡ past
      go Bad past d = absurd (d refl)
      go (Segment id base size) past d = refl
      go (Partition id code save) past d = refl
      go (Right partition segment mode) past d = refl
      go (Flow from to) past d = refl
      go (Slot partition ticks) past d = refl
