-- How the rest of a line is read, by what a reader says of its next field: past a field that is read the line goes on, or
-- ends, as its definition does; past any other nothing is read.
use Prim.Native.Nat.{ℕ, ◌+◌, ◌≤◌}
use mathlib.Core.Path.{◌≡◌, refl, sym, ◌∙◌}
use mathlib.Core.Bool.{Bool, true, false, cond}
use mathlib.Core.List.{List, [], ◌∷◌}
use native.Mathlib.Omega.{arith}
use borrow.Author.Tests.{lt-ltb, le-ltb, eqb-true, eqb-false}
use lib.Dec.{eqb, ltb}
use lib.ListN.{length}
use Rattle.std.specs.Prelude.{Option, Some, None}
use Rattle.text.proofs.Laws.Cut.{cut_next}
use Rattle.text.proofs.Laws.Fields.{by_stop, step_tab, step_end}
use Rattle.text.specs.declared.read.LineRead.{LineRead}
use Rattle.text.specs.Cut.{tab, line_end}
use Rattle.text.specs.Lines.{given, next_field, word_of, line_of_word, line_by, line_of}
use Rattle.text.specs.Lines.{segment_line, partition_line, right_line, flow_line, slot_line}
use Rattle.text.specs.Number.{number}
use Rattle.text.specs.Places.{piece_at, end_at}
use Rattle.text.specs.Readers.{field_at, field_end, stop_at, past_field, Found, found, field_read, word_read, line_found}
use Rattle.text.specs.Rest.{fields_from, rest_read}
use Rattle.text.specs.declared.line.Cursor.{Cursor}
use Rattle.text.specs.declared.line.Kind.{Kind}
use Rattle.text.specs.declared.line.Kind.TheVariants.{Segment as OfSegment, Partition as OfPartition, Right as OfRight, Flow as OfFlow, Slot as OfSlot}
use Rattle.text.specs.declared.line.Line.{Line}
use Rattle.text.specs.declared.line.Line.TheVariants.{Bad}

-- Nothing is read past a bad line.
abbrev pub nothing : LineRead
nothing = record { line = Bad; next = record { at = 0; line = 0 } }

pub no_value : {T : Type 0} {v : T} → None ≡ Some v → ⊥
no_value e = cc

pub rest_bad : (text : List ℕ) (c : Cursor) → rest_read (λ fs. Bad) text c ≡ nothing
unfolding rest_read
rest_bad text c = go (ltb (end_at line_end text c.at) (length text))
  where
    go : (t : Bool) → line_found (cond t Bad Bad) (record { at = end_at line_end text c.at + 1; line = c.line + 1 }) ≡ nothing
    go true = refl
    go false = refl

-- The same of the fields that stand there is the same of the line.
pub rest_same :
    (says other : List (List ℕ) → Line) (text : List ℕ) (c : Cursor)
    → says (fields_from text c.at) ≡ other (fields_from text c.at) → rest_read says text c ≡ rest_read other text c
unfolding rest_read
rest_same says other text c e = rw e

-- What is bad for every value of a field is bad for the field.
given_bad : (more : ℕ → Line) → ((n : ℕ) → more n ≡ Bad) → (v : Option ℕ) → given v more ≡ Bad
given_bad more h (Some n) = h n
given_bad more h None = refl

-- No line is a record word alone.
alone : (k : Option Kind) → line_of_word number k [] ≡ Bad
unfolding segment_line partition_line right_line flow_line slot_line
alone (Some OfSegment) = refl
alone (Some OfPartition) = refl
alone (Some OfRight) = refl
alone (Some OfFlow) = refl
alone (Some OfSlot) = refl
alone None = refl

module _ (text : List ℕ) (c : Cursor) where
  abbrev from : ℕ
  from = c.at

  -- The rest of the line, by the byte that ends its next field.
  module _ (says : List (List ℕ) → Line) where
    pub rest_tab :
        stop_at text from ≡ tab → (after : List (List ℕ) → Line)
        → ((fs : List (List ℕ)) → says (field_at text from ∷ fs) ≡ after fs)
        → rest_read says text c ≡ rest_read after text (past_field text c)
    unfolding rest_read
    rest_tab e after h =
        let g = step_tab text from e in
        rw (g.fields, g.same_end, h)

    -- There is another field.
    pub rest_more :
        stop_at text from ≡ tab
        → ((f : List ℕ) (fs : List (List ℕ)) → says (field_at text from ∷ f ∷ fs) ≡ Bad)
        → rest_read says text c ≡ nothing
    unfolding fields_from
    rest_more e h =
        rest_tab e (λ fs. says (field_at text from ∷ fs)) (λ fs. refl)
        ∙ rest_same (λ fs. says (field_at text from ∷ fs)) (λ fs. Bad) text (past_field text c)
        (rw (cut_next tab (piece_at line_end text (field_end text from + 1))) (h _ _))
        ∙ rest_bad text (past_field text c)

    pub rest_end :
        stop_at text from ≡ line_end
        → rest_read says text c ≡ line_found (says (field_at text from ∷ [])) (record { at = field_end text from + 1; line = c.line + 1 })
    unfolding rest_read
    rest_end e =
        let g = step_end text from e in
        rw (g.fields, ← g.same_end, lt-ltb (field_end text from) (length text) (omega (arith, g.same_end, g.within)))

    pub rest_open : length text ≤ end_at line_end text from → rest_read says text c ≡ nothing
    unfolding rest_read
    rest_open h = rw (le-ltb (end_at line_end text from) (length text) h)

  -- A reader of a field that a byte is to end, as it is read or not.
  module _ {T : Type 0} (read : List ℕ → Option T) (end : ℕ) (P : Found T → Type 0) where
    pub by_field :
        ((v : T) → stop_at text from ≡ end → read (field_at text from) ≡ Some v
        → P (record { said = Some v; next = past_field text c }))
        → ((stop_at text from ≡ end → read (field_at text from) ≡ None) → P (record { said = None; next = c }))
        → P (field_read read end text c)
    unfolding field_read
    by_field taken none = go (eqb (stop_at text from) end) refl (read (field_at text from)) refl
      where
        go :
            (t : Bool) → eqb (stop_at text from) end ≡ t → (v : Option T) → read (field_at text from) ≡ v
            → P (found (cond t (read (field_at text from)) None) (past_field text c) c)
        go true e (Some v) q = rw q (taken v (eqb-true _ _ e) q)
        go true e None q = rw q (none (λ s. q))
        go false e v q = none (λ s. absurd (eqb-false _ _ e s))

  -- The next field, read so, and what the line says by its value and the fields after it.
  module _ (read : List ℕ → Option ℕ) (more : ℕ → List (List ℕ) → Line) where
    abbrev next : List (List ℕ) → Line
    next fs = next_field read fs more

    -- Another field is to stand after it.
    module _ {r : Found ℕ} (is : r ≡ field_read read tab text c) where
      pub inner_read_lem : {n : ℕ} → r.said ≡ Some n → rest_read next text c ≡ rest_read (more n) text r.next
      inner_read_lem {n} =
          rw is
          (by_field read tab (λ r. r.said ≡ Some n → rest_read next text c ≡ rest_read (more n) text r.next)
          (λ m s q e. rest_tab next s (more n) (λ fs. rw q (let z : m ≡ n = cc in rw z)))
          (λ f e. absurd (no_value e)))

      pub inner_none : ((n : ℕ) → more n [] ≡ Bad) → r.said ≡ None → rest_read next text c ≡ nothing
      inner_none h =
          rw is
          (by_field read tab (λ r. r.said ≡ None → rest_read next text c ≡ nothing)
          (λ m s q e. absurd (no_value (sym e)))
          (λ f e. by_stop text from _
          (λ s g. rest_tab next s (λ fs. Bad) (λ fs. rw (f s)) ∙ rest_bad text (past_field text c))
          (λ s g. rest_end next s ∙ rw (given_bad (λ n. more n []) h (read (field_at text from))))
          (λ s g. rest_open next g)))

    -- It is to end its line.
    module _ {r : Found ℕ} (is : r ≡ field_read read line_end text c) where
      pub last_read_lem :
          {n : ℕ} → r.said ≡ Some n
          → rest_read next text c ≡ line_found (more n []) (record { at = r.next.at; line = c.line + 1 })
      last_read_lem {n} =
          rw is
          (by_field read line_end
          (λ r. r.said ≡ Some n
          → rest_read next text c ≡ line_found (more n []) (record { at = r.next.at; line = c.line + 1 }))
          (λ m s q e. rest_end next s ∙ rw q (let z : m ≡ n = cc in rw z))
          (λ f e. absurd (no_value e)))

      pub last_none :
          ((n : ℕ) (f : List ℕ) (fs : List (List ℕ)) → more n (f ∷ fs) ≡ Bad) → r.said ≡ None
          → rest_read next text c ≡ nothing
      last_none h =
          rw is
          (by_field read line_end (λ r. r.said ≡ None → rest_read next text c ≡ nothing)
          (λ m s q e. absurd (no_value (sym e)))
          (λ f e. by_stop text from _
          (λ s g. rest_more next s (λ f fs. given_bad (λ n. more n (f ∷ fs)) (λ n. h n f fs) (read (field_at text from))))
          (λ s g. rest_end next s ∙ rw (f s))
          (λ s g. rest_open next g)))

    -- It is read neither so nor so.
    pub either_none :
        {r r' : Found ℕ} → r ≡ field_read read tab text c → r' ≡ field_read read line_end text c
        → r.said ≡ None → r'.said ≡ None → rest_read next text c ≡ nothing
    either_none is is' =
        rw (is, is')
        (by_field read tab
        (λ r. r.said ≡ None → (field_read read line_end text c).said ≡ None → rest_read next text c ≡ nothing)
        (λ m s q e. absurd (no_value (sym e)))
        (λ f e. by_field read line_end (λ r. r.said ≡ None → rest_read next text c ≡ nothing)
        (λ m s q e. absurd (no_value (sym e)))
        (λ f' e'. by_stop text from _
        (λ s g. rest_tab next s (λ fs. Bad) (λ fs. rw (f s)) ∙ rest_bad text (past_field text c))
        (λ s g. rest_end next s ∙ rw (f' s))
        (λ s g. rest_open next g))))

  -- The record word: a line says what its kind says of the fields after it.
  word_known :
      {k : Option Kind} → word_of (field_at text from) ≡ k → stop_at text from ≡ tab
      → rest_read line_of text c ≡ rest_read (line_of_word number k) text (past_field text c)
  unfolding line_by
  word_known {k} q s = rest_tab line_of s (line_of_word number k) (λ fs. rw q)

  word_unknown : (stop_at text from ≡ tab → word_of (field_at text from) ≡ None) → rest_read line_of text c ≡ nothing
  unfolding line_by
  word_unknown f =
      by_stop text from _ (λ s g. word_known (f s) s ∙ rest_bad text (past_field text c))
      (λ s g. rest_end line_of s ∙ rw (alone (word_of (field_at text from)))) (λ s g. rest_open line_of g)

  pub word_says : {w : Found Kind} → w ≡ word_read text c → rest_read line_of text c ≡ rest_read (line_of_word number w.said) text w.next
  word_says is =
      rw is
      (by_field word_of tab (λ w. rest_read line_of text c ≡ rest_read (line_of_word number w.said) text w.next)
      (λ k s q. word_known q s) (λ f. word_unknown f ∙ sym (rest_bad text c)))
