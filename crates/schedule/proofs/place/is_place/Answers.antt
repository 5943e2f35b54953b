-- The tests are the definition's, in its order.
use Rattle.schedule.proofs.place.is_place.Goals as goal

pub returns : goal.returns
returns c = rw c.entry_or.ensures
