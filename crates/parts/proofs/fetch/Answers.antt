-- The part that is lent is the code segment's bytes.
use native.Mathlib.Nat.{add-sub_cancel_left}
use Rattle.parts.proofs.fetch.Goals as goal

pub returns : goal.returns
returns c = rw (c.fetch.ensures, add-sub_cancel_left)
