-- 02, S-5: what rule 16 changes in reading. It is compared with reading by the rules of document 01 for the whole.
use Rattle.std.specs.Prelude.{ℕ, ◌≡◌, true, false, cond, ◌&&◌, List, Ok, Err, ◌⊎◌}
use Rattle.text.specs.Number.{number}
use Rattle.policy.specs.declared.record.Refusal.TheVariants.{StraySource}
use Rattle.policy.specs.Limits.{Limits}
use Rattle.policy.specs.View.{View}
use Rattle.policy.specs.Whole.{stray_flow}
use Rattle.policy.specs.Tables.{zeros, view_of}
use Rattle.policy.specs.First.{first_of}
use Rattle.policy.specs.Refusals.{Verdict, is_accepted}
use Rattle.policy.specs.Read.{Answer, answer, rules_of_01, read_by}

abbrev pub refusal_of_01 : View → Verdict
refusal_of_01 v = first_of (Ok tt) (rules_of_01 v)

-- Reading as it was, without 16.
abbrev pub read_before : Limits → List ℕ → Answer
read_before = read_by number refusal_of_01

-- "16 .. line 0"
abbrev pub stray_answer : Limits → Answer
stray_answer limits = answer limits (Err StraySource) (zeros limits)

-- 16 asked of what the rules before it accept, and of nothing else.
abbrev pub then_stray : Limits → Answer → Answer
then_stray limits before =
    cond (is_accepted before.refusal && stray_flow (view_of before.tables)) (stray_answer limits) before

-- A text that is accepted now was accepted before, with the same record; one that was accepted before is accepted or
-- refused by 16, line 0, and by nothing else; one that was refused is refused as it was.
pub record Fewer (limits : Limits) (before now : Answer) : Type 0 where
  pub was_accepted : is_accepted now.refusal ≡ true → before ≡ now
  pub by_stray_alone : is_accepted before.refusal ≡ true → (now ≡ before) ⊎ (now ≡ stray_answer limits)
  pub refused_alike : is_accepted before.refusal ≡ false → now ≡ before
