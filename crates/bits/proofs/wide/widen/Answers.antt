-- The loop copies number by number; the invariant: those before i are copied, and have 32 bits as their type says.
use native.Mathlib.Decide.{dec_lt}
use native.Mathlib.Omega.{arith}
use lib.ListN.{get_or-eq_default}
use lib.Seq.{ext_get_or}
use Rattle.bits.proofs.wide.widen.Goals as goal

pub returns-clause-same : goal.returns-clause-same
returns-clause-same c = ext_get_or 0 _ _ (c.loop-i.invariant.long) (λ j k. c.loop-i.invariant.same j (omega arith))

pub returns-clause-narrow : goal.returns-clause-narrow
returns-clause-narrow c i =
    elim (dec_lt i c.loop-i.i) [
      | yes l ↦ c.loop-i.invariant.narrow i l
      | no l ↦ rw (get_or-eq_default c.args.from.now 0 {n = i} (omega arith)) (omega arith)
    ]
