-- Each return rewrites with the tests on the way, which are the definition's in its order.
use Rattle.std.proofs.Common.{sym, ◌∙◌, eq-eqb, ne_eqb}
use Rattle.policy.specs.Limits.{single}
use Rattle.calls.specs.Start.{start_outcome}
use Rattle.kernel.proofs.tested.tested.Goals as goal

pub returns-then-memory-ne-MEMORY : goal.returns-then-memory-ne-MEMORY
unfolding start_outcome
returns-then-memory-ne-MEMORY c = rw (ne_eqb _ single.memory c.if-memory-ne-MEMORY.true)

pub returns-then-not-passes_test : goal.returns-then-not-passes_test
unfolding start_outcome
returns-then-not-passes_test c =
    rw (eq-eqb _ _ c.if-memory-ne-MEMORY.false, sym c.passes_test.ensures ∙ c.if-not-passes_test.true)

pub returns : goal.returns
unfolding start_outcome
returns c = rw (eq-eqb _ _ c.if-memory-ne-MEMORY.false, sym c.passes_test.ensures ∙ c.if-not-passes_test.false)
