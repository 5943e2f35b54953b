-- What someone who calls the operations may rely on when joining, repeating, exchanging and beginning anew: consequences of
-- 01's rules for Start, Pend and Run. Statements; the proofs are in proofs/.
use Rattle.std.specs.Prelude.{ℕ, ◌+◌, ◌≤◌, ◌<◌, ◌≡◌, List, length, get_or, Ok}
use Rattle.policy.specs.Limits.{Limits}
use Rattle.policy.specs.View.{View}
use Rattle.policy.specs.Tables.{Tables, view_of}
use Rattle.machine.specs.Layout.{layout}
use Rattle.machine.specs.Machine.{State}
use Rattle.calls.specs.Under.{Under, under}
use Rattle.calls.specs.Start.{start_outcome, start_answer, after_start}
use Rattle.calls.specs.Pend.{pend_outcome, after_pend}
use Rattle.calls.specs.Run.{most_ticks_of_run, run_outcome, after_ticks, after_run, run_answer}
use Rattle.calls.specs.Lists.{Call, exec}

-- A Run of a + b ticks against one of a and then, with the memory and the place that it left, one of b.
pub record Splits (u : Under) (x : State) (a b : ℕ) : Type 0 where
  pub same_state : after_run u x (a + b) ≡ after_run u (after_run u x a) b
  -- number and place
  pub same_answer : run_answer u x (a + b) ≡ run_answer u (after_run u x a) b
  -- the first part answers the number that the whole does
  pub first_number : run_outcome u x a ≡ run_outcome u x (a + b)

-- "n ticks are done and the new place is returned": a Run may be cut in two. Of every record, sound or not, and every state:
-- where the whole is refused (9, 10 or 13), both parts are refused by the same number and nothing moves. 14 does not arise.
abbrev pub RunSplits : Type 0
RunSplits =
    (limits : Limits) (tables : Tables) (x : State) (a b : ℕ) →
    a + b ≤ most_ticks_of_run → Splits (under limits tables) x a b

-- "Else n ticks are done": after a Run that acts, each Run that 14 lets pass acts, since ticks keep memory's length and a place
-- of the schedule.
abbrev pub RunGoesOn : Type 0
RunGoesOn =
    (limits : Limits) (tables : Tables) (x : State) (a b : ℕ) →
    run_outcome (under limits tables) x a ≡ Ok tt → b ≤ most_ticks_of_run →
    run_outcome (under limits tables) (after_run (under limits tables) x a) b ≡ Ok tt

-- Two Runs that act, one after the other, leave what a + b ticks leave, also where one Run of so many is refused by 14.
abbrev pub RunsJoin : Type 0
RunsJoin =
    (u : Under) (x : State) (a b : ℕ) →
    run_outcome u x a ≡ Ok tt → run_outcome u (after_run u x a) b ≡ Ok tt →
    after_run u (after_run u x a) b ≡ after_ticks u.view (a + b) x

-- No Pend decides what a later one answers, since each answers by the length of memory alone, and keeps it. Of every record,
-- every memory, and refused Pends too.
abbrev pub PendAnswersAlone : Type 0
PendAnswersAlone =
    (u : Under) (memory : List ℕ) (p line q other : ℕ) →
    pend_outcome u (after_pend u memory p line) q other ≡ pend_outcome u memory q other

-- "that pended bit becomes 1": a Pend twice is a Pend once; the second answers the number of the first.
abbrev pub PendTwice : Type 0
PendTwice =
    (u : Under) (memory : List ℕ) (p line : ℕ) →
    (after_pend u (after_pend u memory p line) p line ≡ after_pend u memory p line)
    × (pend_outcome u (after_pend u memory p line) p line ≡ pend_outcome u memory p line)

-- "and no other bit of memory changes": two Pends in either order leave the same memory, and each answers the same number first
-- or second.
abbrev pub PendsEitherOrder : Type 0
PendsEitherOrder =
    (u : Under) (memory : List ℕ) (p line q other : ℕ) →
    (after_pend u (after_pend u memory p line) q other ≡ after_pend u (after_pend u memory q other) p line)
    × (pend_outcome u memory p line ≡ pend_outcome u (after_pend u memory q other) p line)
    × (pend_outcome u (after_pend u memory p line) q other ≡ pend_outcome u memory q other)

-- A place of memory that lies in no partition's save segment.
abbrev pub InNoSave : View → ℕ → Type 0
InNoSave v at =
    (p : ℕ) → p < v.partitions → v.base (v.save p) ≤ at → at < v.base (v.save p) + layout.size → ⊥

-- Two memories of one length with the same "other bytes": those in no save segment.
pub record SameOthers (v : View) (m n : List ℕ) : Type 0 where
  pub same_length : length m ≡ length n
  pub same_others : (at : ℕ) → InNoSave v at → get_or m at 0 ≡ get_or n at 0

-- What Start does to two memories: the same answer, and where it acts the same memory. Where it refuses, each memory stays.
pub record StartsAlike (u : Under) (m n : List ℕ) : Type 0 where
  pub same_answer : start_answer u m ≡ start_answer u n
  pub same_memory : start_outcome u m ≡ Ok tt → after_start u m ≡ after_start u n

-- "all save segments become zero, other bytes stay": Start forgets what the save segments held, all 44 bytes of each.
abbrev pub StartForgets : Type 0
StartForgets =
    (limits : Limits) (tables : Tables) (m n : List ℕ) →
    SameOthers (view_of tables) m n → StartsAlike (under limits tables) m n

-- "Each call gets the memory that the call before left": after any list of Pends and Runs, refused ones included, Start answers
-- what it would have answered before them, and where it acts it leaves what it leaves on any memory with the same other bytes.
abbrev pub StartAfterCalls : Type 0
StartAfterCalls =
    (limits : Limits) (tables : Tables) (cs : List Call) (x : State) →
    let u = under limits tables in
    (start_answer u (exec u cs x).memory ≡ start_answer u x.memory)
    × ((n : List ℕ) → SameOthers (view_of tables) (exec u cs x).memory n → start_outcome u x.memory ≡ Ok tt →
    after_start u (exec u cs x).memory ≡ after_start u n)
