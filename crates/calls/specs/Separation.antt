-- Demand 3, in its two sentences. Each is a statement; the proofs are in proofs/.
use Rattle.std.specs.Prelude.{ℕ, ◌<◌, ◌≡◌, List, length}
use Rattle.policy.specs.Limits.{Limits}
use Rattle.policy.specs.View.{View}
use Rattle.policy.specs.Tables.{Tables, view_of}
use Rattle.policy.specs.Sound.{Sound}
use Rattle.machine.specs.declared.Place.{Place}
use Rattle.machine.specs.Machine.{State, Segs, Dia, Stands, current, select, next}
use Rattle.calls.specs.Under.{Under, under}
use Rattle.calls.specs.Run.{state_of}
use Rattle.calls.specs.Lists.{Call, exec, ticks, SamePended, Source}

-- "under every accepted policy, any two memories with the same current partition, the same bytes in a segment and in
-- every segment that this partition may read and that has a flow line into it, have the same bytes in that segment
-- after one tick of that machine". 02, S-8: "The one-tick separation rule now also takes the two counts as equal". The two
-- places may differ in slot and ticks used.
abbrev pub OneTick : Type 0
OneTick =
    (limits : Limits) (tables : Tables) → Sound limits tables →
    (t : ℕ) → t < (view_of tables).segments →
    (x y : State) → Stands limits (view_of tables) x → Stands limits (view_of tables) y →
    current (view_of tables) x ≡ current (view_of tables) y →
    x.place.count ≡ y.place.count →
    select (view_of tables) t x ≡ select (view_of tables) t y →
    ((s : ℕ) → Segs (view_of tables) (current (view_of tables) x) s → Dia (view_of tables) t s →
    select (view_of tables) s x ≡ select (view_of tables) s y) →
    select (view_of tables) t (next (view_of tables) x) ≡ select (view_of tables) t (next (view_of tables) y)

-- What two lists and the states that they begin in have in common.
pub record Alike (u : Under) (t : ℕ) (cs : List Call) (x : State) (ds : List Call) (y : State) : Type 0 where
  -- "with equally many ticks in all"
  pub same_ticks : ticks u cs x ≡ ticks u ds y
  -- "Let a segment and all segments from which a chain of flow lines leads to it begin equal"
  pub same_sources : (s : ℕ) → Source u.view t s → select u.view s x ≡ select u.view s y
  -- "and let each partition whose save segment is among these have the same lines pended between the same ticks; all
  -- other pended lines may differ"
  pub same_lines : (p : ℕ) → p < u.view.partitions → Source u.view t (u.view.save p) →
      SamePended u cs x ds y (ticks u cs x) p

-- "Then that segment has the same bytes after both lists, and the schedule stands at the same slot and ticks used." 02, S-8:
-- "over many ticks the shared place includes the count".
pub record EndAlike (v : View) (t : ℕ) (x y : State) : Type 0 where
  pub same_bytes : select v t x ≡ select v t y
  pub same_slot : x.place.slot ≡ y.place.slot
  pub same_used : x.place.used ≡ y.place.used
  pub same_count : x.place.count ≡ y.place.count

-- "take, under one accepted policy, any two lists of Pend and Run calls, refused ones included, each call taking over
-- what the last one left, from one schedule place". The place is any, also one that 13 refuses, and has any count; each list
-- begins with any memory of the head's size.
abbrev pub WholeRuns : Type 0
WholeRuns =
    (limits : Limits) (tables : Tables) → Sound limits tables →
    (t : ℕ) → t < (view_of tables).segments →
    (cs ds : List Call) (m n : List ℕ) (place : Place) →
    length m ≡ limits.memory → length n ≡ limits.memory →
    Alike (under limits tables) t cs (state_of m place) ds (state_of n place) →
    EndAlike (view_of tables) t (exec (under limits tables) cs (state_of m place)) (exec (under limits tables) ds (state_of n place))
