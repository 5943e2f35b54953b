-- Source document 003's current, segs, dia, select and next, under one policy. One next is one tick.
use Rattle.std.specs.Prelude.{ℕ, ◌<◌, ◌≡◌, true, List, length}
use Rattle.policy.specs.Limits.{Limits}
use Rattle.policy.specs.View.{View}
use Rattle.policy.specs.Access.{readable}
use Rattle.policy.specs.Chain.{FlowLine}
use Rattle.machine.specs.declared.Place.{Place}
use Rattle.machine.specs.Bytes.{part}
use Rattle.machine.specs.Decode.{last_opcode}
use Rattle.machine.specs.Tick.{Seat, tick_of}
use Rattle.machine.specs.Place.{is_place, moved}

-- A machine state: memory and schedule place.
pub record State : Type 0 where
  pub memory : List ℕ
  pub place : Place

module _ (v : View) where
  -- "Current is the partition of the present slot."
  abbrev pub current : State → ℕ
  current x = v.owner x.place.slot

  -- "segs(p) is R(p)."
  pub record Segs (p s : ℕ) : Type 0 where
    pub there : s < v.segments
    pub read : readable v p s ≡ true

  -- "dia(t) is the set of segments s with a line "flow s t"."
  abbrev pub Dia : ℕ → ℕ → Type 0
  Dia t s = FlowLine v s t

  -- The bytes of a segment.
  abbrev pub select : ℕ → State → List ℕ
  select s x = part x.memory (v.base s) (v.size s)

  -- What a tick of p asks of the policy, and of the machine whose highest opcode is `last`.
  abbrev pub seat_up_to : ℕ → ℕ → Seat
  seat_up_to last p =
      record {
        opcodes = last;
        segments = v.segments;
        base = v.base;
        size = v.size;
        reads = v.reads p;
        writes = v.writes p;
      }

  -- One tick of that machine: the current partition's effect on memory, at the count of the place that the tick starts
  -- from, "the count before its tick", and the place moves.
  abbrev pub next_up_to : ℕ → State → State
  next_up_to last x =
      let p = current x in
      record {
        memory = tick_of (seat_up_to last p) (v.code p) (v.save p) x.place.count x.memory;
        place = moved v x.place;
      }

  -- The same on this machine.
  abbrev pub seat : ℕ → Seat
  seat p = seat_up_to last_opcode p

  -- One tick of this machine.
  unfoldable pub next : State → State
  next x = next_up_to last_opcode x

-- The states that the machine is for: memory of its size, and a place that refusal 13 lets pass.
pub record Stands (limits : Limits) (v : View) (x : State) : Type 0 where
  pub whole : length x.memory ≡ limits.memory
  pub placed : is_place v x.place ≡ true
