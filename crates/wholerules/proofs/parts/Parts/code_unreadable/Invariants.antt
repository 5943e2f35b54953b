-- The loop stops at the first partition that may not read its code; the invariant: none before p is one.
use mathlib.Core.Bool.{not}
use Rattle.policy.proofs.Laws.Loops.{Searched}
use Rattle.wholerules.specs.Parts.{view_of_parts}
use Rattle.wholerules.proofs.parts.Parts.code_unreadable.Given as goal

abbrev pub invariant-loop-p : goal.invariant-loop-p
invariant-loop-p l = let v = view_of_parts l.self in Searched l.self.partitions (λ q. not (v.reads q (v.code q))) l.p
