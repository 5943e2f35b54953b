-- The greater of both ends is past each of them.
use native.Mathlib.Omega.{arith}
use Rattle.validate.proofs.Laws.Ends.{ended_next}
use Rattle.validate.proofs.entries.end_after.Goals as goal

pub returns : goal.returns
returns c =
    let a = c.args in
    ended_next a.base.now a.size.now a.i a.end c.requires _ (omega arith) (omega arith)
