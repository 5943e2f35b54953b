-- 02, S-4: "decimal texts give what they gave". A text in which no field begins with 0x is read as it was, and so is every
-- text that was not refused by 2: the new form makes lines good that were bad, and changes no other. Whatever is asked of the
-- whole.
use Prim.Native.Nat.{ℕ, ◌+◌}
use mathlib.Core.Path.{◌≡◌, refl, sym, ◌∙◌, ap}
use mathlib.Core.Bool.{Bool, true, false, cond, true≢false}
use mathlib.Core.List.{List, [], ◌∷◌}
use native.Mathlib.Omega.{arith}
use Rattle.std.specs.Prelude.{Ok, Err}
use Rattle.text.specs.DecimalTexts.{is_decimal}
use Rattle.text.specs.Lines.{lines_by}
use Rattle.text.specs.Number.{decimal, number}
use Rattle.text.specs.declared.line.Line.{Line}
use Rattle.text.proofs.Lines.{Both, Kept, decimal_lines, lines_kept}
use Rattle.policy.specs.declared.record.Key.{Key}
use Rattle.policy.specs.declared.record.Refusal.TheVariants.{TooLong, Malformed}
use Rattle.policy.specs.Limits.{Limits}
use Rattle.policy.specs.View.{View}
use Rattle.policy.specs.Tables.{Tables, zeros, view_of}
use Rattle.policy.specs.Draft.{Draft, begun, after}
use Rattle.policy.specs.Refusals.{Verdict, is_accepted, number_of}
use Rattle.policy.specs.Read.{Answer, too_long, is_bad, line_refusal, answer, read_lines_by, read_by}

module _ (whole : View → Verdict) (limits : Limits) where
  -- Refusal, line and record.
  pub decimal_texts :
      (text : List ℕ) → is_decimal text ≡ true → read_by decimal whole limits text ≡ read_by number whole limits text
  unfolding read_by
  decimal_texts text e = rw (decimal_lines text e)

  abbrev RefusedBy2 : Answer → Type 0
  RefusedBy2 r = number_of r.refusal ≡ 2

  bad_refused :
      (n : ℕ) (before : Key) (v : View) (line : Line) → is_bad line ≡ true → line_refusal limits n before v line ≡ Err (Malformed n)
  unfolding line_refusal
  bad_refused n before v line e = rw e

  lines_answered :
      (ls ms : List Line) → Both Kept ls ms → (n : ℕ) (d : Draft) → (RefusedBy2 (read_lines_by whole limits n d ls) → ⊥)
      → read_lines_by whole limits n d ms ≡ read_lines_by whole limits n d ls
  unfolding read_lines_by
  lines_answered [] [] h n d g = refl
  lines_answered [] (m ∷ ms) h n d g = absurd h
  lines_answered (l ∷ ls) [] h n d g = absurd h
  lines_answered (l ∷ ls) (m ∷ ms) h n d g = go (is_bad l) refl (lines_answered ls ms h.1 (n + 1) (after d l))
    where
      rest : List Line → Answer
      rest lines = read_lines_by whole limits (n + 1) (after d l) lines

      refusal : Verdict
      refusal = line_refusal limits n d.before (view_of d.tables) l

      none : Answer
      none = answer limits refusal (zeros limits)

      through :
          (b : Bool) → (RefusedBy2 (cond b (rest ls) none) → ⊥) → ((RefusedBy2 (rest ls) → ⊥) → rest ms ≡ rest ls)
          → cond b (rest ms) none ≡ cond b (rest ls) none
      through true g more = more g
      through false g more = refl

      go :
          (b : Bool) → is_bad l ≡ b → ((RefusedBy2 (rest ls) → ⊥) → rest ms ≡ rest ls)
          → read_lines_by whole limits n d (m ∷ ms) ≡ read_lines_by whole limits n d (l ∷ ls)
      go true e more = absurd (g (rw (bad_refused n d.before (view_of d.tables) l e)))
      go false e more =
          let same : m ≡ l = h.0 (λ z. true≢false (sym (ap is_bad z) ∙ e)) in
          rw same (through (is_accepted refusal) g more)

  pub answers_kept :
      (text : List ℕ) → (RefusedBy2 (read_by decimal whole limits text) → ⊥)
      → read_by number whole limits text ≡ read_by decimal whole limits text
  unfolding read_by
  answers_kept text = go (too_long limits text)
    where
      rest : List Line → Answer
      rest lines = read_lines_by whole limits 1 (begun limits) lines

      long : Answer
      long = answer limits (Err TooLong) (zeros limits)

      go :
          (b : Bool) → (RefusedBy2 (cond b long (rest (lines_by decimal text))) → ⊥)
          → cond b long (rest (lines_by number text)) ≡ cond b long (rest (lines_by decimal text))
      go true g = refl
      go false g = lines_answered (lines_by decimal text) (lines_by number text) (lines_kept text) 1 (begun limits) g

  -- Every text that was accepted is accepted, with the same record.
  pub accepted_kept :
      (text : List ℕ) (t : Tables) → read_by decimal whole limits text ≡ record { refusal = Ok tt; tables = t }
      → read_by number whole limits text ≡ record { refusal = Ok tt; tables = t }
  accepted_kept text t e =
      answers_kept text
      (λ z. absurd (let q : ◌≡◌ {A = ℕ} 0 2 = sym (ap (λ (r : Answer). number_of r.refusal) e) ∙ z in omega arith))
      ∙ e
