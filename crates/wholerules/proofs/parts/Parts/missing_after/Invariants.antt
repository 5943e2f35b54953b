-- The loop carries what has been found: the invariant is the definition's value after the targets before t.
use mathlib.Core.Path.{◌≡◌}
use Rattle.policy.specs.ByTarget.{found_after}
use Rattle.wholerules.specs.Parts.{view_of_parts}
use Rattle.wholerules.proofs.parts.Parts.missing_after.Given as goal

abbrev pub invariant-loop-t : goal.invariant-loop-t
invariant-loop-t l = l.missing ≡ found_after (view_of_parts l.self) l.t
