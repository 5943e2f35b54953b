-- Each arm does what the definition says of its kind, in the same order; the registers it names are among the eight.
-- A result and a jump leave whether the next tick is plain; all others ask. The list at the end answers what the search closes.
use Rattle.std.proofs.Common.{◌≡◌, ℕ, ◌<◌, List, sym, ◌∙◌, arith, rules}
use Rattle.machine.specs.Local.{acts_on, resulted}
use Rattle.machine.specs.Save.{counter}
use Rattle.savearea.specs.Next.{Hands}
use Rattle.savearea.specs.declared.step.Next.TheVariants.{Steps}
use Rattle.savearea.proofs.Laws.Counters.{counter_behind, counter-half_behind}
use Rattle.savearea.proofs.Laws.Next.{plain_resulted, plain_jumps}
use Rattle.local.proofs.act.Goals as goal

result-hands : (s t : List ℕ) (a n next : ℕ) → a < 8 → (t ≡ resulted s a n) × (next ≡ counter t) → Hands (Steps next) s t
result-hands s t a n next few e = (e.1, rw e.0 (plain_resulted s a n few))

pub advance-requires : goal.advance-requires
advance-requires c =
    let handler = c in
    let lines = handler in
    let start = lines in (
      rw (handler.put_half.ensures, lines.put-in-Listen.ensures)
          (start.requires.0 ∙ sym (counter-half_behind _ 40 _ (omega arith) ∙ counter_behind _ 37 _ (omega arith))),
      search rules,
    )

pub returns-in-Halt : goal.returns-in-Halt
unfolding acts_on
returns-in-Halt c =
    let state = c in
    let arm = state in
    let start = arm in
    let e = state.put.ensures in
    let same = start.requires.0 ∙ sym (counter_behind _ 34 _ (omega arith)) in
    (rw (arm.in-Halt.is, e), rw e same)

pub returns-in-Set : goal.returns-in-Set
unfolding acts_on
returns-in-Set c =
    let e = c.put_result.ensures in
    let arm = c in
    let start = arm in
    (rw (arm.in-Set.is, e.0), result-hands _ _ _ _ _ (rw arm.in-Set.is at start.requires.2) e)

pub returns-in-Add : goal.returns-in-Add
unfolding acts_on
returns-in-Add c =
    let result = c in
    let right = result in
    let left = right in
    let arm = left in
    let start = arm in
    let e = result.put_result-in-Add.ensures in (
      rw (arm.in-Add.is, e.0, right.get_word_in-in-Add.ensures, left.get_word_in.ensures),
      result-hands _ _ _ _ _ (rw arm.in-Add.is at start.requires.2).0 e,
    )

pub returns-in-Sub : goal.returns-in-Sub
unfolding acts_on
returns-in-Sub c =
    let result = c in
    let right = result in
    let left = right in
    let arm = left in
    let start = arm in
    let e = result.put_result-in-Sub.ensures in (
      rw (arm.in-Sub.is, e.0, right.get_word_in-in-Sub-2.ensures, left.get_word_in-in-Sub.ensures),
      result-hands _ _ _ _ _ (rw arm.in-Sub.is at start.requires.2).0 e,
    )

pub returns-in-And : goal.returns-in-And
unfolding acts_on
returns-in-And c =
    let result = c in
    let right = result in
    let left = right in
    let arm = left in
    let start = arm in
    let e = result.put_result-in-And.ensures in (
      rw (arm.in-And.is, e.0, right.get_word_in-in-And-2.ensures, left.get_word_in-in-And.ensures),
      result-hands _ _ _ _ _ (rw arm.in-And.is at start.requires.2).0 e,
    )

pub returns-in-Xor : goal.returns-in-Xor
unfolding acts_on
returns-in-Xor c =
    let result = c in
    let right = result in
    let left = right in
    let arm = left in
    let start = arm in
    let e = result.put_result-in-Xor.ensures in (
      rw (arm.in-Xor.is, e.0, right.get_word_in-in-Xor-2.ensures, left.get_word_in-in-Xor.ensures),
      result-hands _ _ _ _ _ (rw arm.in-Xor.is at start.requires.2).0 e,
    )

pub returns-in-Shift : goal.returns-in-Shift
unfolding acts_on
returns-in-Shift c =
    let result = c in
    let right = result in
    let left = right in
    let arm = left in
    let start = arm in
    let e = result.put_result-in-Shift.ensures in (
      rw (arm.in-Shift.is, e.0, right.get_word_in-in-Shift-2.ensures, left.get_word_in-in-Shift.ensures),
      result-hands _ _ _ _ _ (rw arm.in-Shift.is at start.requires.2).0 e,
    )

pub returns-in-Jump : goal.returns-in-Jump
unfolding acts_on
returns-in-Jump c =
    let e = c.jump.ensures in
    (rw (c.in-Jump.is, e.0), (e.1, rw e.0 (plain_jumps _ _ _)))

pub returns-in-Count : goal.returns-in-Count
unfolding acts_on
returns-in-Count c =
    let e = c.put_result-in-Count.ensures in
    let arm = c in
    let start = arm in
    (rw (arm.in-Count.is, e.0), result-hands _ _ _ _ _ (rw arm.in-Count.is at start.requires.2) e)
