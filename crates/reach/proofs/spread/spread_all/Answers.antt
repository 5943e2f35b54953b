-- Each turn takes one segment more among the inner ones.
use mathlib.Core.Path.{◌≡◌, refl, ap, ◌∙◌}
use native.Mathlib.Numerals.{add-one}
use native.Mathlib.Omega.{arith}
use lib.ListN.{length}
use Rattle.reach.specs.Spread.{spread_to, spread_up}
use Rattle.reach.proofs.spread.spread_all.Goals as goal

pub loop-k-init : goal.loop-k-init
unfolding spread_up
loop-k-init c = refl

pub loop-k-preserved : goal.loop-k-preserved
unfolding spread_up
loop-k-preserved c =
    rw add-one
    (c.spread.ensures
    ∙ ap (spread_to c.loop-k.rows c.loop-k.k) c.loop-k.auto.rows
    ∙ ap (λ r. spread_to r c.loop-k.k (length c.args.rows.now)) c.loop-k.invariant)

pub returns : goal.returns
returns c =
    let e : c.loop-k.k ≡ c.args.segments = omega arith in
    rw e at c.loop-k.invariant
