-- A lawful policy record's arrays seat a tick, where they have the head's lengths and a mask has a bit for each of its segments.
use Prim.Native.Nat.{ℕ, ◌≤◌, ◌<◌}
use mathlib.Core.Path.{◌≡◌}
use native.Mathlib.Omega.{arith}
use lib.ListN.{get_or, length}
use Rattle.policy.specs.Limits.{Limits}
use Rattle.policy.specs.Tables.{Tables, view_of}
use Rattle.policy.specs.Lawful.{Lawful}
use Rattle.tick.specs.Seat.{Seated}

pub record_seated : (limits : Limits) (t : Tables) (q : ℕ) → limits.segments ≤ 64
    → length t.segments.base ≡ limits.segments → length t.segments.size ≡ limits.segments
    → Lawful limits (view_of t) → q < t.partitions.count
    → Seated t.segments.base t.segments.size t.segments.count (get_or t.partitions.code q 0) (get_or t.partitions.save q 0) limits.memory
record_seated limits t q fits bases sizes w there =
    let few : t.segments.count ≤ limits.segments = w.few_segments in
    record {
      every = record { few = omega arith; base_there = omega arith; size_there = omega arith; inside = w.inside };
      code_there = w.code_there q there;
      save_there = w.save_there q there;
      save_size = w.save_size q there;
    }
