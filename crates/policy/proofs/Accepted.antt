-- A sound record passes the test: the record of zeros has what the test asks of each entry, each accepted line keeps that, and the
-- last answer, which accepts too, adds the rules for the whole.
use Prim.Native.Nat.{ℕ, ◌+◌}
use mathlib.Core.Path.{◌≡◌, refl, sym, ◌∙◌, ap}
use mathlib.Core.Bool.{Bool, true, false, cond, true≢false}
use mathlib.Core.List.{List, [], ◌∷◌}
use Rattle.std.specs.Prelude.{Ok, Err}
use Rattle.text.specs.Lines.{lines_of}
use Rattle.text.specs.declared.line.Line.{Line}
use Rattle.text.specs.declared.line.Line.TheVariants.{Bad, Segment, Partition, Right, Flow, Slot}
use Rattle.policy.specs.declared.record.Key.{Key}
use Rattle.policy.specs.declared.record.Refusal.TheVariants.{TooLong}
use Rattle.policy.specs.Limits.{Limits}
use Rattle.policy.specs.View.{View}
use Rattle.policy.specs.Tables.{Tables, zeros, view_of}
use Rattle.policy.specs.Draft.{Draft, added, begun, after}
use Rattle.policy.specs.Refusals.{Verdict, is_accepted}
use Rattle.policy.specs.Read.{Answer, too_long, is_bad, line_rules, line_refusal, whole_refusal, answer, read_lines, read_lines_by, read_by}
use Rattle.policy.specs.Sound.{Sound, sound_of}
use Rattle.policy.specs.Lawful.{Lawful}
use Rattle.policy.specs.Dia.{SaveDia}
use Rattle.policy.proofs.Laws.First.{none_applies}
use Rattle.policy.proofs.Entries.{shaped_of, counts_of, unused_of, fit_of, good_of}
use Rattle.policy.proofs.Lawful.{lawful, save_dia}
use Rattle.policy.proofs.Kept.{Kept, Passing, kept_none}
use Rattle.policy.proofs.Kept.Segments.{kept_segment}
use Rattle.policy.proofs.Kept.Partitions.{kept_partition}
use Rattle.policy.proofs.Kept.Rights.{kept_right}
use Rattle.policy.proofs.Kept.Flows.{kept_flow}
use Rattle.policy.proofs.Kept.Slots.{kept_slot}

-- an accepted line is none that rule 2 refuses, and rules 3 to 5 let it pass
pub record Fine (limits : Limits) (v : View) (before : Key) (line : Line) : Type 0 where
  pub said : is_bad line ≡ false
  pub passing : Passing limits v before line

module _ (limits : Limits) where
  pub fine : (n : ℕ) (before : Key) (v : View) (line : Line) →
      is_accepted (line_refusal limits n before v line) ≡ true → Fine limits v before line
  unfolding line_refusal
  fine n before v line h =
      let none = none_applies (line_rules limits n before v line) refl h in
      record { said = none.0; passing = record { ordered = none.1.0; ranged = none.1.1.0; clear = none.1.1.1.0 } }

  abbrev KeptDraft : Draft → Type 0
  KeptDraft d = Kept limits d.tables d.before.kind

  pub kept_after : (d : Draft) (line : Line) → Fine limits (view_of d.tables) d.before line →
      KeptDraft d → KeptDraft (after d line)
  unfolding added
  kept_after d Bad f k = absurd (true≢false f.said)
  kept_after d (Segment id base size) f k = kept_segment limits d.tables d.before id base size k f.passing
  kept_after d (Partition id code save) f k = kept_partition limits d.tables d.before id code save k f.passing
  kept_after d (Right partition segment mode) f k =
      kept_right limits d.tables d.before partition segment mode k f.passing
  kept_after d (Flow from to) f k = kept_flow limits d.tables d.before from to k f.passing
  kept_after d (Slot partition ticks) f k = kept_slot limits d.tables d.before partition ticks k f.passing

  whole_of : (t : Tables) (kind : ℕ) → Kept limits t kind → is_accepted (whole_refusal (view_of t)) ≡ true → sound_of limits t ≡ true
  unfolding sound_of
  whole_of t kind k w =
      rw (
        shaped_of limits t k.lengths,
        counts_of limits (view_of t) k.counts,
        unused_of limits t k.unused,
        fit_of limits t k.fit,
        good_of limits (view_of t) k.good,
        w,
      )

  abbrev Accepts : Answer → Tables → Type 0
  Accepts r t = r ≡ record { refusal = Ok tt; tables = t }

  -- the answer of a refusal accepts no text
  refused : (r : Verdict) (q t : Tables) → is_accepted r ≡ false → Accepts (answer limits r q) t → ⊥
  refused r q t h e = true≢false (sym (ap (λ (x : Answer). is_accepted x.refusal) e) ∙ h)

  module _ (t : Tables) where
    last_kept : (q : Tables) (kind : ℕ) → Kept limits q kind →
        Accepts (answer limits (whole_refusal (view_of q)) q) t → sound_of limits t ≡ true
    last_kept q kind k e =
        let w : is_accepted (whole_refusal (view_of q)) ≡ true = ap (λ (x : Answer). is_accepted x.refusal) e in
        let same : q ≡ t = rw w at (ap (λ (x : Answer). x.tables) e) in
        rw (← same) (whole_of q kind k w)

    lines_kept : (lines : List Line) (n : ℕ) (d : Draft) → KeptDraft d →
        Accepts (read_lines limits n d lines) t → sound_of limits t ≡ true
    unfolding read_lines_by
    lines_kept [] n d k e = last_kept d.tables d.before.kind k e
    lines_kept (line ∷ lines) n d k e = go (is_accepted refusal) refl e (λ k. lines_kept lines (n + 1) (after d line) k)
      where
        refusal : Verdict
        refusal = line_refusal limits n d.before (view_of d.tables) line

        rest : Answer
        rest = read_lines limits (n + 1) (after d line) lines

        go : (b : Bool) → is_accepted refusal ≡ b → Accepts (cond b rest (answer limits refusal (zeros limits))) t →
            (KeptDraft (after d line) → Accepts rest t → sound_of limits t ≡ true) → sound_of limits t ≡ true
        go true a e more = more (kept_after d line (fine n d.before (view_of d.tables) line a) k) e
        go false a e more = absurd (refused refusal (zeros limits) t a e)

  pub accepted : (t : Tables) → Sound limits t → sound_of limits t ≡ true
  unfolding read_by
  accepted t s = go (too_long limits s.text) s.gives
    where
      lines : List Line
      lines = lines_of s.text

      go : (b : Bool) → Accepts (cond b (answer limits (Err TooLong) (zeros limits)) (read_lines limits 1 (begun limits) lines)) t →
          sound_of limits t ≡ true
      go true e = absurd (refused (Err TooLong) (zeros limits) t refl e)
      go false e = lines_kept t lines 1 (begun limits) (kept_none limits) e

  pub sound_lawful : (t : Tables) → Sound limits t → Lawful limits (view_of t)
  sound_lawful t s = lawful limits t (accepted t s)

  -- "the sources of a save segment .. just what its partition may read"
  pub sound_dia : (t : Tables) → Sound limits t → SaveDia (view_of t)
  sound_dia t s = save_dia limits (view_of t) (sound_lawful t s)
