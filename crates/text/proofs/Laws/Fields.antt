-- The fields from a place to its line's end, by the byte that ends the first of them: a tab, and the others stand past it
-- on the same line; the line's end, and there is no other; or none, and the line has no end.
use Prim.Native.Nat.{ℕ, ◌+◌, ◌<◌, ◌≤◌}
use mathlib.Core.Path.{◌≡◌, refl, sym, ◌∙◌, ap}
use mathlib.Core.List.{List, [], ◌∷◌}
use native.Mathlib.Omega.{arith}
use native.Mathlib.Decide.{dec_lt}
use borrow.Author.Tests.{lt-ltb, le-ltb}
use lib.ListN.{length, drop, get_or, length-drop, get_or-eq_default}
use lib.Seq.{get_or-take, get_or-drop}
use Rattle.text.proofs.Laws.Cut.{piece_within, piece_front, piece_stop, cut_next, end_there}
use Rattle.text.proofs.Laws.Cut.{end_same, piece_rest}
use Rattle.text.proofs.Laws.Ends.{field_in, piece_field, end_field}
use Rattle.text.specs.Cut.{cut, tab, line_end}
use Rattle.text.specs.Places.{first, piece_at, end_at}
use Rattle.text.specs.Readers.{field_at, field_end, stop_at}
use Rattle.text.specs.Rest.{fields_from}

module _ (text : List ℕ) (at : ℕ) where
  abbrev line : List ℕ
  line = piece_at line_end text at

  abbrev end : ℕ
  end = end_at line_end text at

  -- The field is the first of its line's rest.
  abbrev size : ℕ
  size = length (first (cut tab line))

  field_is : field_at text at ≡ first (cut tab line)
  unfolding field_at field_in piece_at
  field_is = piece_field text at

  end_is : field_end text at ≡ at + size
  unfolding field_end field_in piece_at
  end_is = end_field text at

  line_long : end ≡ at + length line
  unfolding end_at
  line_long = refl

  end_within : field_end text at ≤ end
  end_within = omega (arith, end_is, line_long, piece_within tab line)

  -- A field that ends before its line does ends at a tab.
  module _ (h : field_end text at < end) where
    inside : size < length line
    inside = omega (arith, end_is, line_long, h)

    end_inside : end ≤ length text
    unfolding end_at piece_at
    end_inside = omega (arith, h, end_is, piece_within line_end (drop at text), length-drop at text)

    inner_stop : stop_at text at ≡ tab
    unfolding stop_at piece_at
    inner_stop =
        ap (λ (k : ℕ). get_or text k 0) end_is
        ∙ sym (get_or-drop at text size 0)
        ∙ sym (get_or-take (length line) (drop at text) size 0 inside)
        ∙ ap (λ l. get_or l size 0) (piece_front line_end (drop at text))
        ∙ piece_stop tab line inside

    inner_end : end_at line_end text (field_end text at + 1) ≡ end
    inner_end =
        let q : field_end text at + 1 ≡ at + (size + 1) = omega (arith, end_is) in
        rw q (end_same line_end text at (size + 1) (omega (arith, end_is, h)))

    inner_fields : fields_from text at ≡ field_at text at ∷ fields_from text (field_end text at + 1)
    unfolding fields_from
    inner_fields =
        let q : field_end text at + 1 ≡ at + (size + 1) = omega (arith, end_is) in
        rw (q, field_is, ← piece_rest line_end text at (size + 1) (omega (arith, end_is, h)))
        (cut_next tab line ∙ rw (lt-ltb size (length line) inside))

  -- The last field of a line.
  module _ (h : end ≤ field_end text at) where
    last-fields : fields_from text at ≡ field_at text at ∷ []
    unfolding fields_from
    last-fields =
        rw field_is (cut_next tab line ∙ rw (le-ltb size (length line) (omega (arith, end_is, line_long, h))))

    last_end : field_end text at ≡ end
    last_end = omega (arith, end_within, h)

    last_stop : end < length text → stop_at text at ≡ line_end
    unfolding stop_at
    last_stop k = rw last_end (end_there line_end text at k)

    open_stop : length text ≤ end → stop_at text at ≡ 0
    unfolding stop_at
    open_stop k = rw last_end (get_or-eq_default text 0 k)

  -- What follows from the byte that ends the field: the line goes on past a tab, and a line end is its own.
  pub record Inner : Type 0 where
    pub fields : fields_from text at ≡ field_at text at ∷ fields_from text (field_end text at + 1)
    pub same_end : end_at line_end text (field_end text at + 1) ≡ end
    pub within : field_end text at + 1 ≤ length text

  pub record Last : Type 0 where
    pub fields : fields_from text at ≡ field_at text at ∷ []
    pub same_end : field_end text at ≡ end
    pub within : end < length text

  module _ (P : Type 0) (inner : stop_at text at ≡ tab → Inner → P) (final : stop_at text at ≡ line_end → Last → P)
      (unended : stop_at text at ≡ 0 → length text ≤ end → P) where
    pub by_stop : P
    by_stop = go (dec_lt (field_end text at) end) (dec_lt end (length text))
      where
        go : Dec (field_end text at < end) → Dec (end < length text) → P
        go (yes h) d =
            inner (inner_stop h)
            (record { fields = inner_fields h; same_end = inner_end h; within = omega (arith, h, end_inside h) })
        go (no h) (yes k) =
            let late : end ≤ field_end text at = omega arith in
            final (last_stop late k) (record { fields = last-fields late; same_end = last_end late; within = k })
        go (no h) (no k) = unended (open_stop (omega arith) (omega arith)) (omega arith)

  pub step_tab : stop_at text at ≡ tab → Inner
  step_tab e =
      by_stop Inner (λ f g. g) (λ f g. absurd (omega (arith, e, f))) (λ f g. absurd (omega (arith, e, f)))

  pub step_end : stop_at text at ≡ line_end → Last
  step_end e =
      by_stop Last (λ f g. absurd (omega (arith, e, f))) (λ f g. g) (λ f g. absurd (omega (arith, e, f)))
