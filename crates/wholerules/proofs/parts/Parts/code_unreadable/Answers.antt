-- The loop stops at the first partition that may not read its code; the invariant: none before p is one.
use mathlib.Core.Bool.{not}
use mathlib.Core.Path.{ap}
use Rattle.policy.specs.Whole.{code_unreadable}
use Rattle.policy.proofs.Laws.Loops.{search_none, search_found, search_more, search_done}
use Rattle.wholerules.proofs.parts.Parts.code_unreadable.Goals as goal

pub loop-p-init : goal.loop-p-init
loop-p-init c = search_none _ _

pub returns-then-not-bit_at : goal.returns-then-not-bit_at
unfolding code_unreadable
returns-then-not-bit_at c = search_found _ _ _ _ c.loop-p-test.true (rw c.bit_at.ensures) (ap not c.if-not-bit_at.true)

pub loop-p-preserved : goal.loop-p-preserved
loop-p-preserved c = search_more _ _ _ _ c.loop-p.invariant c.loop-p-test.true (rw c.bit_at.ensures) (ap not c.if-not-bit_at.false)

pub returns : goal.returns
unfolding code_unreadable
returns c = search_done _ _ _ c.loop-p.invariant c.loop-p-test.false
