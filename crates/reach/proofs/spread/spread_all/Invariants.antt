-- Each turn takes one segment more among the inner ones.
use mathlib.Core.Path.{◌≡◌}
use Rattle.reach.specs.Spread.{spread_up}
use Rattle.reach.proofs.spread.spread_all.Given as goal

abbrev pub invariant-loop-k : goal.invariant-loop-k
invariant-loop-k l = l.rows ≡ spread_up l.initial.rows l.k
