-- No partition passed shares, and the first that does is found.
use Rattle.policy.proofs.Laws.Loops.{search_none, search_found, search_more, search_done}
use Rattle.linerules.proofs.clash.shares_earlier.Goals as goal

pub loop-i-init : goal.loop-i-init
loop-i-init c = search_none _ _

pub returns-then-save-s : goal.returns-then-save-s
returns-then-save-s c = search_found _ _ _ _ c.loop-i-test.true (rw (c.entry_or-s.ensures, c.entry_or-c.ensures)) c.if-save-s.true

pub loop-i-preserved : goal.loop-i-preserved
loop-i-preserved c = search_more _ _ _ _ c.loop-i.invariant c.loop-i-test.true (rw (c.entry_or-s.ensures, c.entry_or-c.ensures)) c.if-save-s.false

pub returns : goal.returns
returns c = search_done _ _ _ c.loop-i.invariant c.loop-i-test.false
