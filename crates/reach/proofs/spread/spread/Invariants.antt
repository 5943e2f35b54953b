-- Each turn spreads one row more; the rows ahead are as they were.
use mathlib.Core.Path.{◌≡◌}
use Rattle.reach.specs.Spread.{spread_to}
use Rattle.reach.proofs.spread.spread.Given as goal

abbrev pub invariant-loop-row : goal.invariant-loop-row
invariant-loop-row l = l.rows ≡ spread_to l.initial.rows l.k l.row-index
