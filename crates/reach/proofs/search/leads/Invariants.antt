-- The loop's invariant is the search's; it ends since what was looked at grows.
use Prim.Native.Nat.{◌-◌}
use Rattle.reach.proofs.Laws.Search.{Search}
use Rattle.reach.proofs.search.leads.Given as goal

abbrev pub invariant-loop-left : goal.invariant-loop-left
invariant-loop-left l = Search l.sources l.segments l.to l.found l.looked

abbrev pub decreases-loop-left : goal.decreases-loop-left
decreases-loop-left l = 4294967296 - l.looked
