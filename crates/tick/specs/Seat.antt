-- What a tick asks of the policy, from the arrays and masks that the code is lent, and what the code rests on.
use Rattle.std.specs.Prelude.{ℕ, ◌+◌, ◌≤◌, ◌<◌, ◌≡◌, List, get_or, length}
use Rattle.bits.specs.Masks.{has}
use Rattle.policy.specs.Limits.{save_size}
use Rattle.machine.specs.Decode.{last_opcode}
use Rattle.machine.specs.Tick.{Seat}

-- The masks are the current partition's: bit s, a line gives it r, or w, on segment s.
abbrev pub seat_of : List ℕ → List ℕ → ℕ → ℕ → ℕ → Seat
seat_of base size reads writes segments =
    record {
      opcodes = last_opcode;
      segments = segments;
      base = λ s. get_or base s 0;
      size = λ s. get_or size s 0;
      reads = λ s. has reads s;
      writes = λ s. has writes s;
    }

-- Every segment has its entries and its bit, and lies inside a memory of `whole` bytes.
pub record Inside (base size : List ℕ) (segments whole : ℕ) : Type 0 where
  pub few : segments ≤ 64
  pub base_there : segments ≤ length base
  pub size_there : segments ≤ length size
  pub inside : (s : ℕ) → s < segments → get_or base s 0 + get_or size s 0 ≤ whole

-- The code and save segments are there too, and the save segment has its size.
pub record Seated (base size : List ℕ) (segments code save whole : ℕ) : Type 0 where
  pub every : Inside base size segments whole
  pub code_there : code < segments
  pub save_there : save < segments
  pub save_size : get_or size save 0 ≡ save_size
