-- The part that is lent is the save bytes, and comes back in their place.
use native.Mathlib.Nat.{add-sub_cancel_left}
use Rattle.parts.proofs.interrupt.Goals as goal

pub interrupt-requires : goal.interrupt-requires
interrupt-requires c = rw add-sub_cancel_left (c.requires.line_due, c.requires.counter_is)

pub returns : goal.returns
returns c = rw (c.interrupt.ensures, add-sub_cancel_left)
