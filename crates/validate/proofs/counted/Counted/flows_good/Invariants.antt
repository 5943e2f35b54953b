-- The loop goes on to the last target; the invariant: no bit is stray where each pair with a target before t is good.
use mathlib.Core.Path.{◌≡◌}
use mathlib.Core.List.{[]}
use lib.Dec.{eqb}
use Rattle.policy.specs.Below.{each_below}
use Rattle.policy.specs.Limits.{single}
use Rattle.policy.specs.Sound.{good_flow}
use Rattle.wholerules.specs.Parts.{parts_of}
use Rattle.validate.proofs.counted.Counted.flows_good.Given as goal

abbrev pub invariant-loop-t : goal.invariant-loop-t
invariant-loop-t l =
    let p = l.self.policy.now in
    eqb l.stray 0 ≡ each_below l.t (λ k. each_below 32 (λ s. good_flow single (parts_of p.segments 0 0 [] [] [] [] p.sources) s k))
