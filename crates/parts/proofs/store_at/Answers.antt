-- Bytes put into the segment that is lent are put at their place in memory.
use native.Mathlib.Nat.{add-sub_cancel_left}
use Rattle.machine.specs.Bytes.{digits}
use Rattle.machine.proofs.Laws.Numbers.{length_digits}
use Rattle.machine.proofs.Laws.Parts.{with-part-sets}
use Rattle.parts.proofs.store_at.Goals as goal

pub returns : goal.returns
returns g c =
    let a = c.args in
    rw (c.write.ensures, add-sub_cancel_left)
    (with-part-sets a.memory.now a.start a.size a.at (digits g.W.Width.BYTES a.n) (rw length_digits c.requires.1))
