-- The part that is lent is the save bytes, and comes back in their place.
use native.Mathlib.Nat.{add-sub_cancel_left}
use Rattle.parts.proofs.fault.Goals as goal

pub returns : goal.returns
returns c = rw (c.fault.ensures, add-sub_cancel_left)
