-- The counter after each way of writing to the save bytes that the code has.
use Prim.Native.Nat.{ℕ, ◌+◌, ◌*◌, ◌%◌, ◌≤◌, ◌<◌}
use native.Mathlib.Omega.{arith}
use mathlib.Core.Path.{◌≡◌, ◌∙◌}
use mathlib.Core.Logic.{inr}
use mathlib.Core.List.{List}
use lib.ListN.{length, set}
use Rattle.octets.specs.Numbers.{with_half, with_word}
use Rattle.octets.proofs.Laws.Halves.{half_put, half_beside, half_behind_word}
use Rattle.machine.specs.declared.Fault.{Fault}
use Rattle.machine.specs.Save.{counter}
use Rattle.machine.specs.Faults.{faults}

-- Put, it is what was put.
pub counter_put : (s : List ℕ) (n : ℕ) → 44 ≤ length s → counter (with_half s 32 n) ≡ n % 65536
counter_put s n long = half_put s 32 n (omega arith)

-- The registers lie before it, and every other field behind it.
pub counter-register : (s : List ℕ) (a n : ℕ) → a < 8 → counter (with_word s (4 * a) n) ≡ counter s
counter-register s a n few = half_behind_word s 32 (4 * a) n (omega arith)

pub counter_behind : (s : List ℕ) (j v : ℕ) → 34 ≤ j → counter (set s j v) ≡ counter s
counter_behind s j v h = half_beside s 32 j v (inr h)

pub counter-half_behind : (s : List ℕ) (j n : ℕ) → 34 ≤ j → counter (with_half s j n) ≡ counter s
unfolding with_half
counter-half_behind s j n h = counter_behind _ (j + 1) _ (omega arith) ∙ counter_behind s j _ h

-- A fault leaves it.
pub counter-faults : (s : List ℕ) (f : Fault) → counter (faults s f) ≡ counter s
unfolding faults
counter-faults s f = counter_behind _ 35 _ (omega arith) ∙ counter_behind s 34 _ (omega arith)
