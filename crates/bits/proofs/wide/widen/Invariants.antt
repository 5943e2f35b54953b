-- The loop copies number by number; the invariant: those before i are copied, and have 32 bits as their type says.
use Prim.Native.Nat.{ℕ, ◌^◌, ◌<◌}
use mathlib.Core.Path.{◌≡◌}
use lib.ListN.{get_or, length}
use Rattle.bits.proofs.wide.widen.Given as goal

abbrev pub invariant-loop-i : goal.invariant-loop-i
invariant-loop-i l =
    record {
      long : length l.to ≡ length l.from;
      same : (j : ℕ) → j < l.i → get_or l.to j 0 ≡ get_or l.from j 0;
      narrow : (j : ℕ) → j < l.i → get_or l.from j 0 < 2 ^ 32;
    }
