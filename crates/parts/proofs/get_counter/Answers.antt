-- The part that is lent is the save bytes.
use native.Mathlib.Nat.{add-sub_cancel_left}
use Rattle.parts.proofs.get_counter.Goals as goal

pub returns : goal.returns
returns c = rw (c.get_half.ensures, add-sub_cancel_left)
