-- Rule 16 is the last of its list, so it is asked of what the others accept: reading as it is answers as it did, or by 16.
use Prim.Native.Nat.{ℕ, ◌+◌}
use mathlib.Core.Path.{◌≡◌, refl, sym, ◌∙◌, ap}
use mathlib.Core.Bool.{Bool, true, false, cond, ◌&&◌, true≢false}
use mathlib.Core.List.{List, [], ◌∷◌}
use mathlib.Core.Logic.{inl, inr}
use Rattle.std.specs.Prelude.{Err}
use Rattle.text.specs.Lines.{lines_of}
use Rattle.text.specs.declared.line.Line.{Line}
use Rattle.policy.specs.declared.record.Refusal.TheVariants.{TooLong, StraySource}
use Rattle.policy.specs.Limits.{Limits}
use Rattle.policy.specs.Whole.{stray_flow}
use Rattle.policy.specs.Tables.{Tables, zeros, view_of}
use Rattle.policy.specs.Draft.{Draft, begun, after}
use Rattle.policy.specs.Refusals.{Verdict, is_accepted}
use Rattle.policy.specs.Read.{Answer, answer, too_long, line_refusal, rules_of_01, whole_refusal, read_lines_by, read_by, read_of}
use Rattle.policy.specs.Fewer.{refusal_of_01, read_before, stray_answer, then_stray, Fewer}
use Rattle.policy.proofs.Laws.First.{first-last}

module _ (limits : Limits) where
  end_stray : (t : Tables) →
      answer limits (whole_refusal (view_of t)) t ≡ then_stray limits (answer limits (refusal_of_01 (view_of t)) t)
  unfolding whole_refusal
  end_stray t =
      ap (λ (r : Verdict). answer limits r t)
      (first-last (rules_of_01 (view_of t)) (record { applies = stray_flow (view_of t); answer = Err StraySource }) refl)
      ∙ go (refusal_of_01 (view_of t)) (is_accepted (refusal_of_01 (view_of t))) (stray_flow (view_of t)) refl refl
    where
      go : (r : Verdict) (b s : Bool) → is_accepted r ≡ b → stray_flow (view_of t) ≡ s →
          answer limits (cond (is_accepted r && stray_flow (view_of t)) (Err StraySource) r) t ≡ then_stray limits (answer limits r t)
      go r false s e q = rw (e, e)
      go r true false e q = rw (e, q, e)
      go r true true e q = rw (e, q)

  lines_stray : (lines : List Line) (n : ℕ) (d : Draft) →
      read_lines_by whole_refusal limits n d lines ≡ then_stray limits (read_lines_by refusal_of_01 limits n d lines)
  unfolding read_lines_by
  lines_stray [] n d = end_stray d.tables
  lines_stray (line ∷ lines) n d = go (is_accepted refusal) refl (lines_stray lines (n + 1) (after d line))
    where
      refusal : Verdict
      refusal = line_refusal limits n d.before (view_of d.tables) line

      now : Answer
      now = read_lines_by whole_refusal limits (n + 1) (after d line) lines

      before : Answer
      before = read_lines_by refusal_of_01 limits (n + 1) (after d line) lines

      go : (b : Bool) → is_accepted refusal ≡ b → now ≡ then_stray limits before →
          cond b now (answer limits refusal (zeros limits)) ≡ then_stray limits (cond b before (answer limits refusal (zeros limits)))
      go true e more = more
      go false e more = rw e

  pub read_stray : (text : List ℕ) → read_of limits text ≡ then_stray limits (read_before limits text)
  unfolding read_by
  read_stray text = go (too_long limits text)
    where
      rest : Answer
      rest = read_lines_by refusal_of_01 limits 1 (begun limits) (lines_of text)

      go : (b : Bool) →
          cond b (answer limits (Err TooLong) (zeros limits)) (read_lines_by whole_refusal limits 1 (begun limits) (lines_of text))
          ≡ then_stray limits (cond b (answer limits (Err TooLong) (zeros limits)) rest)
      go true = refl
      go false = lines_stray (lines_of text) 1 (begun limits)

  fewer_of : (before now : Answer) → now ≡ then_stray limits before → Fewer limits before now
  fewer_of before now e = go (is_accepted before.refusal) (stray_flow (view_of before.tables)) refl refl
    where
      kept : now ≡ before → Fewer limits before now
      kept n = record { was_accepted = λ h. sym n; by_stray_alone = λ h. inl n; refused_alike = λ h. n }

      go : (a s : Bool) → is_accepted before.refusal ≡ a → stray_flow (view_of before.tables) ≡ s → Fewer limits before now
      go true true p q =
          let n : now ≡ stray_answer limits = e ∙ rw (p, q) in
          record {
            was_accepted = λ h. absurd (true≢false (sym h ∙ ap (λ (x : Answer). is_accepted x.refusal) n));
            by_stray_alone = λ h. inr n;
            refused_alike = λ h. absurd (true≢false (sym p ∙ h));
          }
      go true false p q = kept (e ∙ rw (p, q))
      go false s p q = kept (e ∙ rw p)

  pub fewer : (text : List ℕ) → Fewer limits (read_before limits text) (read_of limits text)
  fewer text = fewer_of (read_before limits text) (read_of limits text) (read_stray text)
