-- A segment that begins where those before it have ended overlaps none of them.
use Prim.Native.Nat.{ℕ, ◌+◌, ◌≤◌}
use mathlib.Core.Path.{◌≡◌}
use mathlib.Core.Bool.{false}
use Rattle.policy.specs.Limits.{single}
use Rattle.policy.specs.Sound.{first_segments}
use Rattle.policy.specs.Tables.{Tables, zeros, view_of}
use native.Mathlib.Omega.{arith}
use borrow.Author.Tests.{le-ltb}
use lib.ListN.{get_or}
use Rattle.policy.specs.Clash.{overlaps, overlaps_earlier}
use Rattle.policy.proofs.Laws.Below.{none_of}
use Rattle.linerules.specs.Parts.{EndedBy}

pub none_past : (t : Tables) (i end base size : ℕ) → EndedBy t.segments.base t.segments.size i end → end ≤ base →
    overlaps_earlier (first_segments (view_of t) i) base size ≡ false
none_past t i end base size ended l =
    none_of (overlaps (first_segments (view_of t) i) base size) i
    (λ j m. let k = ended j m in rw (le-ltb base (get_or t.segments.base j 0 + get_or t.segments.size j 0) (omega arith)))

-- The segments of a record end at a place or before it.
abbrev pub Ended : Tables → ℕ → Type 0
Ended t end = EndedBy t.segments.base t.segments.size t.segments.count end

pub ended_none : (t : Tables) → t ≡ zeros single → Ended t 0
ended_none t e = rw e (λ j l. absurd (omega arith))
