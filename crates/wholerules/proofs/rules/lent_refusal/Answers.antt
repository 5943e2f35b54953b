-- The code asks the four rules in the definition's order.
use Rattle.policy.specs.Read.{whole_refusal}
use Rattle.policy.specs.Whole.{incomplete}
use Rattle.wholerules.proofs.rules.lent_refusal.Goals as goal

pub returns-then-parts : goal.returns-then-parts
unfolding whole_refusal incomplete
returns-then-parts c = rw c.if-parts.true

pub returns-then-code_unreadable : goal.returns-then-code_unreadable
unfolding whole_refusal incomplete
returns-then-code_unreadable c = rw (c.if-parts.false, ← c.code_unreadable.ensures, c.if-code_unreadable.true)

pub returns-then-flows : goal.returns-then-flows
unfolding whole_refusal incomplete
returns-then-flows c =
    rw (c.if-parts.false, ← c.code_unreadable.ensures, c.if-code_unreadable.false, ← c.flows-flows.ensures.missing, c.if-flows.true)

pub returns-then-flows-2 : goal.returns-then-flows-2
unfolding whole_refusal incomplete
returns-then-flows-2 c =
    let flows = c.flows-flows.ensures in
    rw (
      c.if-parts.false,
      ← c.code_unreadable.ensures,
      c.if-code_unreadable.false,
      ← flows.missing,
      c.if-flows.false,
      ← flows.stray,
      c.if-flows-2.true,
    )

pub returns : goal.returns
unfolding whole_refusal incomplete
returns c =
    let flows = c.flows-flows.ensures in
    rw (
      c.if-parts.false,
      ← c.code_unreadable.ensures,
      c.if-code_unreadable.false,
      ← flows.missing,
      c.if-flows.false,
      ← flows.stray,
      c.if-flows-2.false,
    )
