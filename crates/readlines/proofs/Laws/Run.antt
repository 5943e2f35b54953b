-- What holds whenever the reader stands before a line: what is left to read gives the answer of the whole text. A line is then bad, or is read into
-- the draft, or there is none.
use Prim.Native.Nat.{ℕ, ◌+◌, ◌<◌, ◌≤◌}
use mathlib.Core.Path.{◌≡◌, sym, ◌∙◌, ap}
use mathlib.Core.Bool.{true, false, true≢false}
use mathlib.Core.List.{List}
use native.Mathlib.Omega.{arith}
use borrow.Author.Tests.{lt-ltb}
use lib.ListN.{length}
use Rattle.text.specs.Cut.{line_end}
use Rattle.text.specs.Lines.{lines_of}
use Rattle.text.specs.Places.{end_at}
use Rattle.text.specs.declared.line.Line.{Line}
use Rattle.text.specs.declared.line.Line.TheVariants.{Bad}
use Rattle.policy.specs.Limits.{single}
use Rattle.policy.specs.Tables.{zeros, view_of}
use Rattle.policy.specs.Draft.{Draft, after, begun}
use Rattle.policy.specs.Refusals.{is_accepted}
use Rattle.policy.specs.Read.{line_refusal, whole_refusal, answer, read_lines, read_lines_by}
use Rattle.policy.proofs.Kept.{Kept, kept_none}
use Rattle.policy.proofs.Accepted.{fine, kept_after}
use Rattle.text.specs.Readers.{line_at, line_read}
use Rattle.text.proofs.Laws.Cut.{end_least}
use Rattle.text.proofs.Laws.Line.{line_left}
use Rattle.readlines.proofs.Laws.Lines.{lines_from, lines_all, line_next, lines_end}

pub record Reached (text : List ℕ) (d : Draft) (at n : ℕ) : Type 0 where
  pub same : read_lines single 1 (begun single) (lines_of text) ≡ read_lines single n d (lines_from text at)
  pub within : at ≤ length text
  pub counted : n ≤ at + 1
  pub kept : Kept single d.tables d.before.kind

pub reached_first : (text : List ℕ) → Reached text (begun single) 0 1
reached_first text = record { same = rw (lines_all text); within = omega arith; counted = omega arith; kept = kept_none single }

module _ (text : List ℕ) (d : Draft) (at n : ℕ) (r : Reached text d at n) where
  abbrev line : Line
  line = line_at text at

  pub stops_refused : at < length text → is_accepted (line_refusal single n d.before (view_of d.tables) line) ≡ false →
      answer single (line_refusal single n d.before (view_of d.tables) line) (zeros single) ≡ read_lines single 1 (begun single) (lines_of text)
  unfolding read_lines_by
  stops_refused h f = sym (r.same ∙ rw (line_next text at h, f))

  -- a line that is not refused is not bad, so it has an end
  not_bad : is_accepted (line_refusal single n d.before (view_of d.tables) line) ≡ true → line ≡ Bad → ⊥
  unfolding line_refusal
  not_bad f b = true≢false (sym f ∙ ap (λ l. is_accepted (line_refusal single n d.before (view_of d.tables) l)) b)

  pub reached_more : at < length text → is_accepted (line_refusal single n d.before (view_of d.tables) line) ≡ true →
      Reached text (after d line) (line_read text at n).next.at (line_read text at n).next.line
  unfolding read_lines_by
  reached_more h f =
      let left = line_left text at n (not_bad f) in
      rw left.1
      (record {
        same = r.same ∙ rw (line_next text at h, f, lt-ltb (end_at line_end text at) (length text) left.0);
        within = omega (arith, left.0);
        counted = omega (arith, r.counted, end_least line_end text at);
        kept = kept_after single d line (fine single n d.before (view_of d.tables) line f) r.kept;
      })

  pub moves_on : is_accepted (line_refusal single n d.before (view_of d.tables) line) ≡ true → at < (line_read text at n).next.at
  moves_on f = rw (line_left text at n (not_bad f)).1 (omega (arith, end_least line_end text at))

  pub stops_end : length text ≤ at → answer single (whole_refusal (view_of d.tables)) d.tables ≡ read_lines single 1 (begun single) (lines_of text)
  unfolding read_lines_by
  stops_end h = sym (r.same ∙ rw (lines_end text at h))
