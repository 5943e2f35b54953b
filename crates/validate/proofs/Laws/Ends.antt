-- Where one segment more has ended: past those before it, and past itself.
use Prim.Native.Nat.{ℕ, ◌+◌, ◌<◌, ◌≤◌}
use mathlib.Core.Path.{◌≡◌}
use mathlib.Core.List.{List}
use native.Mathlib.Omega.{arith}
use native.Mathlib.Decide.{dec_lt}
use lib.ListN.{get_or}
use Rattle.linerules.specs.Parts.{EndedBy}

module _ (base size : List ℕ) (i end : ℕ) (ended : EndedBy base size i end) where
  pub ended_next : (next : ℕ) → end ≤ next → get_or base i 0 + get_or size i 0 ≤ next → EndedBy base size (i + 1) next
  ended_next next a b j l = go (dec_lt j i)
    where
      go : Dec (j < i) → get_or base j 0 + get_or size j 0 ≤ next
      go (yes m) = let k = ended j m in omega arith
      go (no m) = let q : j ≡ i = omega arith in rw q b
