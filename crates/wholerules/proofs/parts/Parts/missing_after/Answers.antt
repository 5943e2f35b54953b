-- The loop carries what has been found: the invariant is the definition's value after the targets before t.
use Prim.Native.Nat.{◌<◌}
use mathlib.Core.Path.{◌≡◌, refl, ◌∙◌}
use native.Mathlib.Omega.{arith}
use Rattle.policy.specs.ByTarget.{found_after}
use Rattle.policy.proofs.ByTarget.{found_next}
use Rattle.wholerules.specs.Parts.{view_of_parts}
use Rattle.wholerules.proofs.Laws.Lackers.{lackers_told}
use Rattle.wholerules.proofs.Laws.Sources.{target_told}
use Rattle.wholerules.proofs.parts.Parts.missing_after.Goals as goal

pub loop-t-init : goal.loop-t-init
unfolding found_after
loop-t-init c = refl

pub invariant_of-reach : goal.invariant_of-reach
invariant_of-reach c =
    let few = c.args.self.now.few in
    record { has_partitions = (omega arith, omega arith); all_joined = c.reach_all-all.ensures.reached_joined }

pub target_lacks-missing-requires : goal.target_lacks-missing-requires
target_lacks-missing-requires c =
    let all = c.reach_all-all.ensures in
    let a = c.args.self.now in
    let there : c.loop-t.t < a.segments = omega arith in record {
      in_width = omega arith;
      lackers_tell = λ none.
          rw (all.lackers_found c.loop-t.t there, c.worth.ensures)
          (lackers_told a.segments a.partitions a.save.now a.reads.now a.writes.now a.sources.now c.loop-t.t there
          _ _ all.are_reached all.are_written (rw all.given_joined at none));
    }

pub loop-t-preserved : goal.loop-t-preserved
loop-t-preserved c =
    let all = c.reach_all-all.ensures in
    let a = c.args.self.now in
    let there : c.loop-t.t < a.segments = omega arith in
    found_next (view_of_parts a) c.loop-t.t _ c.target_lacks-missing.result c.loop-t.invariant
    (rw (c.target_lacks-missing.ensures, c.worth.ensures)
    (target_told a.segments a.partitions a.save.now a.reads.now a.writes.now a.sources.now _ _ all.are_reached all.are_written c.loop-t.t there))

pub returns : goal.returns
returns c =
    let q : c.loop-t.t ≡ c.args.targets = omega arith in
    record { missing = c.loop-t.invariant ∙ rw q; stray = c.reach_all-all.ensures.stray_found }
