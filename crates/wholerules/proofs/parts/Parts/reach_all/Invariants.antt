-- The loop writes each partition's masks at its place; the invariant: those before p are written, all that they have is gathered, and of their save
-- segments it is known which lack a line and whether one has a stray source.
use Prim.Native.Nat.{ℕ, ◌<◌}
use mathlib.Core.Path.{◌≡◌}
use mathlib.Core.Bool.{◌&&◌}
use lib.Dec.{eqb}
use lib.ListN.{get_or, length}
use Rattle.bits.specs.Masks.{has}
use Rattle.policy.specs.Below.{some_below}
use Rattle.policy.specs.ByTarget.{partition_lacks}
use Rattle.policy.specs.Whole.{flow_strays}
use Rattle.wholerules.specs.Masks.{AreReached, joined}
use Rattle.wholerules.specs.Parts.{view_of_parts}
use Rattle.wholerules.proofs.parts.Parts.reach_all.Given as goal

abbrev pub invariant-loop-p : goal.invariant-loop-p
invariant-loop-p l =
    let v = view_of_parts l.self in
    let save = l.self.save.now in record {
      reached_long : length l.reached ≡ 12;
      written_long : length l.written ≡ 12;
      reached : AreReached save l.self.reads.now l.self.segments l.p l.reached;
      written : AreReached save l.self.writes.now l.self.segments l.p l.written;
      any_reached : l.any_reached ≡ joined l.reached l.p;
      given : l.given ≡ joined l.self.writes.now l.p;
      stray : l.stray ≡ some_below l.p (λ q. some_below l.self.segments (flow_strays v q));
      lackers : (t : ℕ) → t < l.self.segments → has l.lackers t ≡ some_below l.p (λ q. eqb t (get_or save q 0) && partition_lacks v t q);
    }
