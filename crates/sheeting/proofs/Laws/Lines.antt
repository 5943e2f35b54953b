-- The sheet's lines as the loop writes them, and how long they are; what the sheet of a text is made of.
use Prim.Native.Nat.{ℕ, zero, suc, ◌*◌, ◌<◌, ◌≤◌}
use mathlib.Core.Path.{◌≡◌, ap, ◌∙◌}
use mathlib.Core.Bool.{true, false}
use mathlib.Core.List.{List}
use native.Mathlib.Omega.{arith}
use lib.ListN.{get_or, length, length-append}
use Rattle.std.specs.Prelude.{Result, Ok}
use Rattle.policy.specs.declared.record.NoAnswer.{NoAnswer}
use Rattle.policy.specs.Limits.{single}
use Rattle.policy.specs.Tables.{Tables, view_of}
use Rattle.policy.specs.Refusals.{is_accepted}
use Rattle.policy.specs.Read.{Answer, read_of}
use Rattle.policy.specs.Sound.{sound_of}
use Rattle.policy.specs.Schedule.{own_ticks, round_ticks, silence}
use Rattle.policy.proofs.Lawful.{lawful}
use Rattle.policy.proofs.Schedule.{less}
use Rattle.policy.proofs.Laws.Sums.{sum_most}
use Rattle.calls.specs.Under.{under}
use Rattle.sheet.specs.declared.Sheet.{Sheet}
use Rattle.sheet.specs.Answer.{sheet_for, sheet_answer}
use Rattle.sheet.proofs.Laws.Answer.{sheet_ok, own_at, silence_at}
use Rattle.writing.proofs.Laws.Digits.{digits_width}
use Rattle.report.specs.Report.{refused_row}
use Rattle.sheeting.specs.Lines.{partition_line, partition_lines, round_line, sheet_of, sheet_lines, sheet_report_of}

pub line_short : (p ticks silent : ℕ) → p < 10 → ticks < 100000 → silent < 100000 → length (partition_line p ticks silent) ≤ 24
line_short p ticks silent a b d =
    simp length-append (omega (arith, digits_width 0 p a, digits_width 4 ticks b, digits_width 4 silent d))

pub round_short : (n : ℕ) → n < 100000 → length (round_line n) ≤ 12
round_short n h = simp length-append (omega (arith, digits_width 4 n h))

module _ (ticks silent : ℕ → ℕ) where
  pub lines_short : ((p : ℕ) → ticks p < 100000) → ((p : ℕ) → silent p < 100000) → (n : ℕ) → n ≤ 10 → length (partition_lines ticks silent n) ≤ 24 * n
  unfolding partition_lines
  lines_short a b zero l = omega arith
  lines_short a b (suc n) l =
      rw length-append (omega (arith, lines_short a b n (omega arith), line_short n (ticks n) (silent n) (omega arith) (a n) (b n)))

-- The numbers of a sound record have five digits at most.
module _ (t : Tables) (h : sound_of single t ≡ true) where
  pub round_small : round_ticks (view_of t) < 100000
  round_small =
      let w = lawful single t h in
      omega (arith, sum_most (view_of t).ticks t.slots.count w.ticks_most, w.few_slots)

  pub own_small : (p : ℕ) → own_ticks (view_of t) p < 100000
  own_small p = omega (arith, less (view_of t) p, round_small)

  pub silence_small : (p : ℕ) → silence (view_of t) p < 100000
  silence_small p = omega (arith, less (view_of t) p, round_small)

  pub sheet_short : length (sheet_of (view_of t)) ≤ 204
  sheet_short =
      let few = (lawful single t h).few_partitions in
      rw length-append
      (omega (arith, few, lines_short (own_ticks (view_of t)) (silence (view_of t)) own_small silence_small t.partitions.count (omega (arith, few)), round_short (round_ticks (view_of t)) round_small))

  pub rows_short : (n : ℕ) → n ≤ 8 → length (partition_lines (own_ticks (view_of t)) (silence (view_of t)) n) ≤ 24 * n
  rows_short n l = lines_short (own_ticks (view_of t)) (silence (view_of t)) own_small silence_small n (omega arith)

  pub sheet_is : {a : Result Sheet NoAnswer} {s : Sheet} → a ≡ sheet_answer (under single t) → a ≡ Ok s → s ≡ sheet_for single (view_of t)
  sheet_is e f = cc (sheet_ok single t h)

  -- The numbers that the sheet has of a partition.
  module _ {s : Sheet} (e : s ≡ sheet_for single (view_of t)) (p : ℕ) where
    pub ticks_are : get_or s.ticks p 0 ≡ own_ticks (view_of t) p
    ticks_are = ap (λ a. get_or a.ticks p 0) e ∙ own_at single t h p

    pub silence_are : get_or s.silence p 0 ≡ silence (view_of t) p
    silence_are = ap (λ a. get_or a.silence p 0) e ∙ silence_at single t h p

module _ (text : List ℕ) {a : Answer} (read : a ≡ read_of single text) where
  pub sheet_refused : is_accepted a.refusal ≡ false → sheet_report_of single text ≡ refused_row a.refusal
  unfolding sheet_report_of sheet_lines
  sheet_refused h = rw (← read, h)

  pub sheet_accepted : is_accepted a.refusal ≡ true → sheet_report_of single text ≡ sheet_of (view_of a.tables)
  unfolding sheet_report_of sheet_lines
  sheet_accepted h = rw (← read, h)
