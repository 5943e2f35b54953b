-- The end of the text, as the code has it: the record stands where the rules for the whole are passed, and that of zeros where not.
use Prim.Native.Nat.{ℕ, ◌≤◌}
use mathlib.Core.Path.{◌≡◌}
use mathlib.Core.List.{List}
use lib.ListN.{length}
use Rattle.std.specs.Prelude.{Ok, Err}
use Rattle.text.specs.Lines.{lines_of}
use Rattle.policy.specs.declared.record.Refusal.{Refusal}
use Rattle.policy.specs.Limits.{single}
use Rattle.policy.specs.Draft.{Draft, begun}
use Rattle.policy.specs.Refusals.{Verdict}
use Rattle.policy.specs.Tables.{view_of, zeros}
use Rattle.policy.specs.Read.{answer, whole_refusal, read_lines}
use Rattle.readlines.proofs.Laws.Run.{Reached, stops_end}

module _ (text : List ℕ) (d : Draft) (at n : ℕ) (r : Reached text d at n)
    (end : length text ≤ at) (verdict : Verdict)
    (is-verdict : verdict ≡ whole_refusal (view_of d.tables)) where
  answered : answer single verdict d.tables ≡ read_lines single 1 (begun single) (lines_of text)
  answered = rw is-verdict (stops_end text d at n r end)

  pub end_accepted : verdict ≡ Ok tt →
      record { refusal = Ok tt; tables = d.tables } ≡ read_lines single 1 (begun single) (lines_of text)
  end_accepted h = rw h at answered

  pub end_refused : (refusal : Refusal) → verdict ≡ Err refusal →
      record { refusal = Err refusal; tables = zeros single } ≡ read_lines single 1 (begun single) (lines_of text)
  end_refused refusal h = rw h at answered
