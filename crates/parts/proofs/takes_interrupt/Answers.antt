-- The part that is lent is the save bytes.
use native.Mathlib.Nat.{add-sub_cancel_left}
use Rattle.parts.proofs.takes_interrupt.Goals as goal

pub returns : goal.returns
returns c = rw (c.takes_interrupt.ensures, add-sub_cancel_left)
