-- The steps of the report on masks alone: what the loops leave.
use Rattle.std.specs.Prelude.{ℕ, zero, suc, Bool, cond, List, length, get_or, set}
use Rattle.std.specs.Int.Bits.{bit_or}
use Rattle.bits.specs.Masks.{has}

-- Whether a line stands, by the sources of each segment.
abbrev pub flow_in : List ℕ → ℕ → ℕ → Bool
flow_in sources s t = has (get_or sources t 0) s

-- Row t takes over row k where k stands in it.
unfoldable pub spread_at : List ℕ → ℕ → ℕ → ℕ
spread_at rows k t = bit_or (get_or rows t 0) (cond (has (get_or rows t 0) k) (get_or rows k 0) 0)

-- So do the first rows, one after another.
unfoldable pub spread_to : List ℕ → ℕ → ℕ → List ℕ
spread_to rows k zero = rows
spread_to rows k (suc t) = set (spread_to rows k t) t (spread_at rows k t)

-- And through 0, 1 and on, each time for all rows.
unfoldable pub spread_up : List ℕ → ℕ → List ℕ
spread_up rows zero = rows
spread_up rows (suc k) = spread_to (spread_up rows k) k (length rows)
