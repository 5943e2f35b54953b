-- 01, "Read a policy", with what 02's S-4 and S-5 add.
use Rattle.std.specs.Prelude.{ℕ, ◌+◌, Bool, true, false, cond, List, [], ◌∷◌, ◌++◌, length, ltb, Option, Ok, Err}
use Rattle.text.specs.Lines.{lines_by}
use Rattle.text.specs.Number.{number}
use Rattle.text.specs.declared.line.Line.{Line}
use Rattle.text.specs.declared.line.Line.TheVariants.{Bad, Segment, Partition, Right, Flow, Slot}
use Rattle.policy.specs.declared.record.Key.{Key}
use Rattle.policy.specs.declared.record.Refusal.TheVariants.{TooLong, Malformed, OutOfOrder, OutOfRange}
use Rattle.policy.specs.declared.record.Refusal.TheVariants.{Clash, Incomplete, CodeUnreadable, FlowMissing, StraySource}
use Rattle.policy.specs.Limits.{Limits}
use Rattle.policy.specs.View.{View}
use Rattle.policy.specs.Order.{out_of_order}
use Rattle.policy.specs.Range.{out_of_range}
use Rattle.policy.specs.Clash.{clashes}
use Rattle.policy.specs.Whole.{incomplete, code_unreadable, flow_missing, stray_flow}
use Rattle.policy.specs.Tables.{Tables, zeros, view_of}
use Rattle.policy.specs.Draft.{Draft, begun, after}
use Rattle.policy.specs.First.{Rule, first_of}
use Rattle.policy.specs.Refusals.{Verdict, is_accepted}

-- 1: "over 16,384 bytes"
abbrev pub too_long : Limits → List ℕ → Bool
too_long limits text = ltb limits.text (length text)

-- 2: "unknown word, wrong fields, bad number or letters, no line end"
abbrev pub is_bad : Line → Bool
is_bad Bad = true
is_bad (Segment id base size) = false
is_bad (Partition id code save) = false
is_bad (Right partition segment mode) = false
is_bad (Flow from to) = false
is_bad (Slot partition ticks) = false

-- "the first bad line, counted from 1, and within it in this order": 2, 3, 4, 5, for the n-th line, where the line before
-- has this key and the lines so far give this view
abbrev pub line_rules : Limits → ℕ → Key → View → Line → List (Rule Verdict)
line_rules limits n before v line =
    record { applies = is_bad line; answer = Err (Malformed n) }
    ∷ record { applies = out_of_order before v line; answer = Err (OutOfOrder n) }
    ∷ record { applies = out_of_range limits v line; answer = Err (OutOfRange n) }
    ∷ record { applies = clashes v line; answer = Err (Clash n) }
    ∷ []

unfoldable pub line_refusal : Limits → ℕ → Key → View → Line → Verdict
line_refusal limits n before v line = first_of (Ok tt) (line_rules limits n before v line)

-- "Then, with line 0: 6 .. 7 .. 8"
abbrev pub rules_of_01 : View → List (Rule Verdict)
rules_of_01 v =
    record { applies = incomplete v; answer = Err Incomplete }
    ∷ record { applies = code_unreadable v; answer = Err CodeUnreadable }
    ∷ record { applies = flow_missing v; answer = Err FlowMissing }
    ∷ []

-- 02, S-5: "16 .. line 0, after 8"
abbrev pub whole_rules : View → List (Rule Verdict)
whole_rules v = rules_of_01 v ++ record { applies = stray_flow v; answer = Err StraySource } ∷ []

unfoldable pub whole_refusal : View → Verdict
whole_refusal v = first_of (Ok tt) (whole_rules v)

pub record Answer : Type 0 where
  pub refusal : Verdict
  pub tables : Tables

-- "A refusal returns number, line and the record of zeros. An accepted text returns number 0, line 0 and its record."
abbrev pub answer : Limits → Verdict → Tables → Answer
answer limits refusal tables = record { refusal = refusal; tables = cond (is_accepted refusal) tables (zeros limits) }

-- The lines from the n-th on, after those in the draft, and then what is asked of the whole.
unfoldable pub read_lines_by : (View → Verdict) → Limits → ℕ → Draft → List Line → Answer
read_lines_by whole limits n d [] = answer limits (whole (view_of d.tables)) d.tables
read_lines_by whole limits n d (line ∷ lines) =
    let refusal = line_refusal limits n d.before (view_of d.tables) line in
    let rest = read_lines_by whole limits (n + 1) (after d line) lines in
    cond (is_accepted refusal) rest (answer limits refusal (zeros limits))

abbrev pub read_lines : Limits → ℕ → Draft → List Line → Answer
read_lines = read_lines_by whole_refusal

-- "1: over 16,384 bytes, line 0. Then the first bad line, counted from 1", with numbers read so and this asked of the whole.
unfoldable pub read_by : (List ℕ → Option ℕ) → (View → Verdict) → Limits → List ℕ → Answer
read_by read whole limits text =
    let rest = read_lines_by whole limits 1 (begun limits) (lines_by read text) in
    cond (too_long limits text) (answer limits (Err TooLong) (zeros limits)) rest

-- 02, S-4: decimal and hexadecimal, "in all places where a number stands". What 01 alone reads is
-- `read_by decimal refusal_of_01` (Fewer.antt).
abbrev pub read_of : Limits → List ℕ → Answer
read_of = read_by number whole_refusal
