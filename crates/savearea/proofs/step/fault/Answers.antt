-- The state and the fault byte are put in the order of the definition.
use Rattle.machine.specs.Faults.{faults}
use Rattle.savearea.proofs.step.fault.Goals as goal

pub returns : goal.returns
unfolding faults
returns c =
    let fault = c in
    let state = fault in
    rw (fault.put-2.ensures, state.put.ensures, c.from.ensures)
