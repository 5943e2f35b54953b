-- 01: "The reader's place, a byte and a line number, moves forward past each field." A reader leaves the place past the
-- field that it has read, on its line and in the text; where it has read none, the place stays.
use Prim.Native.Nat.{ℕ, ◌+◌, ◌<◌, ◌≤◌}
use mathlib.Core.Path.{◌≡◌, refl, sym, ◌∙◌}
use mathlib.Core.List.{List}
use native.Mathlib.Omega.{arith}
use lib.ListN.{length}
use Rattle.std.specs.Prelude.{Option, Some, None}
use Rattle.text.proofs.Laws.Cut.{end_least}
use Rattle.text.proofs.Laws.Fields.{by_stop}
use Rattle.text.proofs.Laws.Readers.{no_value, by_field}
use Rattle.text.specs.Cut.{tab, line_end}
use Rattle.text.specs.Lines.{word_of}
use Rattle.text.specs.Number.{number, letters}
use Rattle.text.specs.Places.{up_to}
use Rattle.text.specs.Readers.{Found, field_end, stop_at, past_field, word_read, field_read, inner_read, last_read, letters_read}
use Rattle.text.specs.declared.line.Cursor.{Cursor}
use Rattle.text.specs.declared.line.Kind.{Kind}

-- The byte is further on and in the text, on the same line.
pub record Forward (text : List ℕ) (c next : Cursor) : Type 0 where
  pub byte : c.at < next.at
  pub same_line : next.line ≡ c.line
  pub within : next.at ≤ length text

module _ (text : List ℕ) (c : Cursor) where
  -- Past a field that a tab or a line end ends.
  past_forward : (stop_at text c.at ≡ 0 → ⊥) → Forward text c (past_field text c)
  unfolding field_end
  past_forward d =
      record {
        byte = omega (arith, end_least tab (up_to text c.at) c.at);
        same_line = refl;
        within =
            by_stop text c.at (field_end text c.at + 1 ≤ length text) (λ s g. g.within)
            (λ s g. omega (arith, g.same_end, g.within)) (λ s g. absurd (d s));
      }

  -- A field, read so.
  module _ {T : Type 0} (read : List ℕ → Option T) (end : ℕ) where
    abbrev found : Found T
    found = field_read read end text c

    field_past : (end ≡ 0 → ⊥) → {v : T} → found.said ≡ Some v → Forward text c found.next
    field_past d {v} =
        by_field text c read end (λ r. r.said ≡ Some v → Forward text c r.next)
        (λ m s q e. past_forward (λ z. d (sym s ∙ z))) (λ f e. absurd (no_value e))

    field_stays : found.said ≡ None → found.next ≡ c
    field_stays =
        by_field text c read end (λ r. r.said ≡ None → r.next ≡ c) (λ m s q e. absurd (no_value (sym e))) (λ f e. refl)

    pub field_same : found.next.line ≡ c.line
    field_same = by_field text c read end (λ r. r.next.line ≡ c.line) (λ m s q. refl) (λ f. refl)

-- The sentence of 01, of the definitions that the readers' contracts cite.
pub record Moves (text : List ℕ) (c : Cursor) : Type 0 where
  pub word_past : {k : Kind} → (word_read text c).said ≡ Some k → Forward text c (word_read text c).next
  pub word_stays : (word_read text c).said ≡ None → (word_read text c).next ≡ c
  pub inner_past : {n : ℕ} → (inner_read text c).said ≡ Some n → Forward text c (inner_read text c).next
  pub inner_stays : (inner_read text c).said ≡ None → (inner_read text c).next ≡ c
  pub last_past : {n : ℕ} → (last_read text c).said ≡ Some n → Forward text c (last_read text c).next
  pub last_stays : (last_read text c).said ≡ None → (last_read text c).next ≡ c
  pub letters_past : {n : ℕ} → (letters_read text c).said ≡ Some n → Forward text c (letters_read text c).next
  pub letters_stays : (letters_read text c).said ≡ None → (letters_read text c).next ≡ c

pub forward : (text : List ℕ) (c : Cursor) → Moves text c
forward text c =
    record {
      word_past = field_past text c word_of tab (λ z. omega arith);
      word_stays = field_stays text c word_of tab;
      inner_past = field_past text c number tab (λ z. omega arith);
      inner_stays = field_stays text c number tab;
      last_past = field_past text c number line_end (λ z. omega arith);
      last_stays = field_stays text c number line_end;
      letters_past = field_past text c letters line_end (λ z. omega arith);
      letters_stays = field_stays text c letters line_end;
    }
