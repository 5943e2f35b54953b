-- 02, S-8: "Opcode 15 sets ra to the count before its tick; a must be a register." Of the machine's tick, under every accepted
-- policy; the proof is in proofs/.
use Rattle.std.specs.Prelude.{ℕ, ◌+◌, ◌≤◌, ◌<◌, ◌≡◌, get_or}
use Rattle.policy.specs.Limits.{Limits}
use Rattle.policy.specs.View.{View}
use Rattle.policy.specs.Tables.{Tables, view_of}
use Rattle.policy.specs.Sound.{Sound}
use Rattle.machine.specs.declared.Fault.TheVariants.{BadInstruction}
use Rattle.machine.specs.Bytes.{with_part}
use Rattle.machine.specs.Layout.{layout}
use Rattle.machine.specs.Save.{register, counter}
use Rattle.machine.specs.Faults.{faults}
use Rattle.machine.specs.Place.{counts}
use Rattle.machine.specs.Machine.{State, Stands, current, next}
use Rattle.machine.specs.Fetches.{save_bytes, saved_of, code_of, Fetches}

-- The operand a of the instruction at the counter.
abbrev pub operand_a : View → State → ℕ
operand_a v x = get_or (code_of v x) (counter (saved_of v x) + 1) 0

-- What such a tick leaves in the save bytes of its partition: "Unless said otherwise the counter gains 4."
pub record Stamped (v : View) (x : State) : Type 0 where
  pub holds_count : register (save_bytes v (current v x) (next v x)) (operand_a v x) ≡ x.place.count
  pub gains_four : counter (save_bytes v (current v x) (next v x)) ≡ counter (saved_of v x) + 4

-- After a tick that fetches 15 with a register a, that register holds the count of the place that the tick started from.
abbrev pub Stamps : Type 0
Stamps =
    (limits : Limits) (tables : Tables) → Sound limits tables →
    (x : State) → Stands limits (view_of tables) x → x.place.count < counts →
    Fetches (view_of tables) x 15 → operand_a (view_of tables) x < 8 → Stamped (view_of tables) x

-- "a must be a register": with another a the tick is fault 2, whatever the count.
abbrev pub RegisterAlone : Type 0
RegisterAlone =
    (v : View) (x : State) → Fetches v x 15 → 8 ≤ operand_a v x →
    (next v x).memory
    ≡ with_part x.memory (v.base (v.save (current v x))) layout.size (faults (saved_of v x) BadInstruction)
