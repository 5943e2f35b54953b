-- One line read, as the code has it: what the line says, where the place is left, and the answer of the line's rules are
-- those of the definition.
use Prim.Native.Nat.{ℕ, ◌<◌}
use mathlib.Core.Path.{◌≡◌, sym, ◌∙◌, ap}
use mathlib.Core.Bool.{false, ◌||◌}
use mathlib.Core.List.{List}
use lib.ListN.{length}
use Rattle.std.specs.Prelude.{Ok, Err}
use Rattle.text.specs.Lines.{lines_of}
use Rattle.text.specs.declared.line.Line.{Line}
use Rattle.policy.specs.declared.record.Key.{Key}
use Rattle.policy.specs.declared.record.Refusal.{Refusal}
use Rattle.policy.specs.Limits.{single}
use Rattle.policy.specs.Order.{kind_falls, id_skips, pair_falls, out_of_order}
use Rattle.policy.specs.Tables.{zeros, view_of}
use Rattle.policy.specs.View.{View}
use Rattle.policy.specs.Draft.{Draft, after, begun}
use Rattle.policy.specs.Refusals.{Verdict, is_accepted}
use Rattle.policy.specs.Read.{line_refusal, read_lines}
use Rattle.policy.proofs.Laws.Bools.{or_left, or_right}
use Rattle.policy.proofs.Accepted.{fine}
use Rattle.text.specs.Readers.{line_at, line_read}
use Rattle.text.specs.declared.read.LineRead.{LineRead}
use Rattle.text.proofs.Laws.Line.{line_says}
use Rattle.linerules.specs.Parts.{Fits}
use Rattle.readlines.proofs.Laws.Run.{Reached, stops_refused, reached_more, moves_on}

id_next : (before : Key) (v : View) (line : Line) → out_of_order before v line ≡ false → id_skips v line ≡ false
unfolding out_of_order
id_next before v line h =
    or_right (kind_falls before line) (id_skips v line)
    (or_left (kind_falls before line || id_skips v line) (pair_falls before line) h)

module _ (text : List ℕ) (d : Draft) (at n : ℕ) (r : Reached text d at n)
    (inside : at < length text) (read : LineRead) (verdict : Verdict) (is_read : read ≡ line_read text at n)
    (is-verdict : verdict ≡ line_refusal single n d.before (view_of d.tables) read.line) where
  same_line : read.line ≡ line_at text at
  same_line = ap (λ l. l.line) is_read ∙ line_says text at n

  same_verdict : verdict ≡ line_refusal single n d.before (view_of d.tables) (line_at text at)
  same_verdict = is-verdict ∙ ap (line_refusal single n d.before (view_of d.tables)) same_line

  pub step_refused : (refusal : Refusal) → verdict ≡ Err refusal →
      record { refusal = Err refusal; tables = zeros single } ≡ read_lines single 1 (begun single) (lines_of text)
  step_refused refusal h =
      let e = sym same_verdict ∙ h in
      rw e at (stops_refused text d at n r inside (ap is_accepted e))

  pub step_fits : verdict ≡ Ok tt → Fits (view_of d.tables) read.line
  step_fits h =
      let f = fine single n d.before (view_of d.tables) read.line (ap is_accepted (sym is-verdict ∙ h)) in
      record {
        in_range = f.passing.ranged;
        next_id = id_next d.before (view_of d.tables) read.line f.passing.ordered;
        few_segments = r.kept.counts.segments;
        few_partitions = r.kept.counts.partitions;
        few_slots = r.kept.counts.slots;
      }

  pub step_more : (next : Draft) → verdict ≡ Ok tt → next ≡ after d read.line → Reached text next read.next.at read.next.line
  step_more next h e =
      rw (e, same_line, is_read)
      (reached_more text d at n r inside (ap is_accepted (sym same_verdict ∙ h)))

  -- the place is left past the line, so the text grows shorter
  pub step_shorter : verdict ≡ Ok tt → at < read.next.at
  step_shorter h = rw is_read (moves_on text d at n r (ap is_accepted (sym same_verdict ∙ h)))
