-- No segment passed overlaps, and the first that does is found.
use mathlib.Core.Path.{refl}
use Rattle.policy.proofs.Laws.Loops.{search_none, search_found, search_more, search_done}
use Rattle.linerules.proofs.clash.overlaps_earlier.Goals as goal

pub loop-i-init : goal.loop-i-init
loop-i-init c = search_none _ _

pub returns-then-base-from : goal.returns-then-base-from
returns-then-base-from c = search_found _ _ _ _ c.loop-i-test.true refl c.if-base-from.true

pub loop-i-preserved : goal.loop-i-preserved
loop-i-preserved c =
    let l = c in
    search_more _ _ _ _ l.loop-i.invariant l.loop-i-test.true refl c.if-base-from.false

pub returns : goal.returns
returns c = search_done _ _ _ c.loop-i.invariant c.loop-i-test.false
