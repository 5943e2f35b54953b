-- What an instruction hands to the next tick of its stretch, so that this need not ask for what is surely as it was.
use Rattle.std.specs.Prelude.{ℕ, ◌≡◌, Bool, not, ◌&&◌, List}
use Rattle.machine.specs.Save.{counter}
use Rattle.machine.specs.Local.{takes_interrupt, is_ready}
use Rattle.savearea.specs.declared.step.Next.{Next}
use Rattle.savearea.specs.declared.step.Next.TheVariants.{Steps, Asks}

-- A tick of these save bytes takes no interrupt, and the partition is ready: it steps.
unfoldable pub is_plain : List ℕ → Bool
is_plain save = not (takes_interrupt save) && is_ready save

-- The counter, known in both cases.
abbrev pub counter_in : Next → ℕ
counter_in (Steps pc) = pc
counter_in (Asks pc) = pc

-- What is handed on after the save bytes went from the one to the other: the counter, and that the next tick steps only
-- where it is plain if this one was.
abbrev pub Hands : Next → List ℕ → List ℕ → Type 0
Hands (Steps pc) before after = (pc ≡ counter after) × (is_plain after ≡ is_plain before)
Hands (Asks pc) before after = pc ≡ counter after
