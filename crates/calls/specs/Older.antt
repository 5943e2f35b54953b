-- 02, S-2: "A run that fetches neither goes as it did"; S-8: "Old opcodes act as they did". Ticks and Runs of the machine
-- whose highest opcode is `last`, and that those of this machine are the same where no opcode between the two is fetched.
-- The proofs are in proofs/.
use Rattle.std.specs.Prelude.{ℕ, zero, suc, ◌≤◌, ◌<◌, ◌≡◌, Ok, Result}
use Rattle.std.specs.Result.{result_and}
use Rattle.policy.specs.View.{View}
use Rattle.machine.specs.declared.Place.{Place}
use Rattle.machine.specs.Decode.{last_opcode, last_opcode_of_01, last_opcode_before_s8}
use Rattle.machine.specs.Machine.{State, next_up_to}
use Rattle.machine.specs.Fetches.{Fetches}
use Rattle.calls.specs.Under.{Under}
use Rattle.calls.specs.declared.Refused.{Refused}
use Rattle.calls.specs.Outcomes.{acts}
use Rattle.calls.specs.Run.{run_outcome, after_ticks, after_run, run_answer}
use Rattle.calls.specs.Lists.{run, did}

-- n ticks of that machine.
unfoldable pub after_ticks_up_to : ℕ → View → ℕ → State → State
after_ticks_up_to last v zero x = x
after_ticks_up_to last v (suc n) x = after_ticks_up_to last v n (next_up_to v last x)

-- Memory and place after its Run, and its answer; no refusal hangs on an opcode.
unfoldable pub after_run_up_to : ℕ → Under → State → ℕ → State
after_run_up_to last u x n = acts (run_outcome u x n) (after_ticks_up_to last u.view n x) x

unfoldable pub run_answer_up_to : ℕ → Under → State → ℕ → Result Place Refused
run_answer_up_to last u x n = result_and (run_outcome u x n) (Ok (after_run_up_to last u x n).place)

-- No tick of the n fetches an opcode above `last` and up to this machine's highest. Opcodes above that are fault 2 on both.
abbrev pub NoneBetween : ℕ → View → ℕ → State → Type 0
NoneBetween last v n x =
    (k : ℕ) → k < n → (op : ℕ) → last < op → op ≤ last_opcode → Fetches v (after_ticks v k x) op → ⊥

-- Then n ticks of this machine leave the memory and the place that n ticks of that one leave.
abbrev pub Older : Type 0
Older =
    (last : ℕ) → last ≤ last_opcode →
    (v : View) (n : ℕ) (x : State) → NoneBetween last v n x → after_ticks v n x ≡ after_ticks_up_to last v n x

-- No tick that this Run does fetches this opcode.
abbrev pub Unfetched : ℕ → Under → State → ℕ → Type 0
Unfetched op u x n = (k : ℕ) → k < did u (run n) x → Fetches u.view (after_ticks u.view k x) op → ⊥

-- "goes as it did": number, place and memory are those of that machine. Of every record, sound or not.
abbrev pub GoesAsOn : ℕ → Under → State → ℕ → Type 0
GoesAsOn last u x n = (run_answer u x n ≡ run_answer_up_to last u x n) × (after_run u x n ≡ after_run_up_to last u x n)

-- "A run that fetches neither goes as it did": one that fetches neither 13 nor 14, nor S-8's 15, goes as on document 01's
-- machine.
abbrev pub FetchesNeither : Type 0
FetchesNeither =
    (u : Under) (x : State) (n : ℕ) →
    Unfetched 13 u x n → Unfetched 14 u x n → Unfetched 15 u x n → GoesAsOn last_opcode_of_01 u x n

-- 02, S-8: "Old opcodes act as they did": a run that does not fetch 15 goes as on the machine before.
abbrev pub OldOpcodes : Type 0
OldOpcodes = (u : Under) (x : State) (n : ℕ) → Unfetched 15 u x n → GoesAsOn last_opcode_before_s8 u x n
