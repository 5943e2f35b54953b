-- What the slot has used is taken from what it has.
use Rattle.schedule.proofs.place.turn_at.Goals as goal

pub returns : goal.returns
returns c = rw c.entry_or-whole.ensures
