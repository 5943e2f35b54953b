-- The part that is lent is the save bytes.
use native.Mathlib.Nat.{add-sub_cancel_left}
use Rattle.machine.specs.Local.{is_ready}
use Rattle.parts.proofs.is_ready.Goals as goal

pub returns : goal.returns
unfolding is_ready
returns c = rw (c.entry_or.ensures, add-sub_cancel_left)
