-- What the slot has left is taken from what it has.
use Rattle.schedule.proofs.place.place_with.Goals as goal

pub returns : goal.returns
returns c = rw c.entry_or-whole.ensures
