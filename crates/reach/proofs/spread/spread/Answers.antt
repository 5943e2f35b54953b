-- Each turn spreads one row more; the rows ahead are as they were.
use mathlib.Core.Path.{◌≡◌, refl}
use lib.ListN.{length}
use native.Mathlib.Omega.{arith}
use Rattle.reach.specs.Spread.{spread_to}
use Rattle.reach.proofs.Laws.Spread.{to_more}
use Rattle.reach.proofs.spread.spread.Goals as goal

pub loop-row-init : goal.loop-row-init
unfolding spread_to
loop-row-init c = refl

pub loop-row-preserved : goal.loop-row-preserved
loop-row-preserved c = to_more _ _ _ _ _ c.loop-row.invariant (rw c.from.ensures at c.taken.ensures)

pub returns : goal.returns
returns c =
    let e : c.loop-row.row-index ≡ length c.args.rows.now = omega arith in
    rw e at c.loop-row.invariant
