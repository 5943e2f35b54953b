-- 01, "A tick": "Faults, the first that applies: 1 counter + 4 is over the code length; 2 bad opcode or register; 5
-- wait inside a handler or back outside one; 3 segment c not there, or no line gives the right ..; 4 offset at or past
-- the length." 02, S-2, of loads and stores of four bytes: "faults 3 and 4 keep their places".
use Rattle.std.specs.Prelude.{ℕ, List, set}
use Rattle.machine.specs.declared.Fault.{Fault}
use Rattle.machine.specs.declared.Fault.TheVariants.{CounterOver, BadInstruction, NoRight, OffsetOver}
use Rattle.machine.specs.declared.Fault.TheVariants.{WrongHandler}
use Rattle.machine.specs.Layout.{layout, faulted}
use Rattle.machine.specs.Save.{with_state}

abbrev pub fault_number : Fault → ℕ
fault_number CounterOver = 1
fault_number BadInstruction = 2
fault_number NoRight = 3
fault_number OffsetOver = 4
fault_number WrongHandler = 5

-- "A fault sets state 2 and the fault byte. The rest of memory stays."
unfoldable pub faults : List ℕ → Fault → List ℕ
faults save fault = set (with_state save faulted) layout.fault (fault_number fault)
