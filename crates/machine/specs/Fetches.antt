-- 02, S-2: "A run that fetches neither goes as it did". The opcode that a tick fetches, if it runs an instruction.
use Rattle.std.specs.Prelude.{ℕ, ◌+◌, ◌≤◌, ◌≡◌, true, false, List, get_or}
use Rattle.policy.specs.View.{View}
use Rattle.machine.specs.Bytes.{part}
use Rattle.machine.specs.Layout.{layout}
use Rattle.machine.specs.Save.{counter}
use Rattle.machine.specs.Local.{takes_interrupt, is_ready}
use Rattle.machine.specs.Machine.{State, current, select}

module _ (v : View) where
  -- A partition's save bytes; the current partition's, and its code bytes.
  abbrev pub save_bytes : ℕ → State → List ℕ
  save_bytes p x = part x.memory (v.base (v.save p)) layout.size

  abbrev pub saved_of : State → List ℕ
  saved_of x = save_bytes (current v x) x

  abbrev pub code_of : State → List ℕ
  code_of x = select v (v.code (current v x)) x

  -- The tick of this state fetches this opcode: it takes no interrupt, the partition is ready, counter + 4 is not over
  -- the code length, and the byte at the counter is the opcode. Bytes that lie in code and are not at the counter do not
  -- count.
  pub record Fetches (x : State) (op : ℕ) : Type 0 where
    pub no_interrupt : takes_interrupt (saved_of x) ≡ false
    pub ready : is_ready (saved_of x) ≡ true
    pub inside : counter (saved_of x) + 4 ≤ v.size (v.code (current v x))
    pub at_counter : get_or (code_of x) (counter (saved_of x)) 0 ≡ op
