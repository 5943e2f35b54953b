-- What a Run has reached, told by the slot, the ticks that it has left and those of the Run that are left.
use Rattle.std.proofs.Common.{◌≡◌, ℕ, ◌+◌, ◌-◌, ◌<◌, ◌≤◌, true, List, get_or, sym, ap, ◌∙◌, arith}
use Rattle.policy.specs.Limits.{Limits}
use Rattle.policy.specs.Tables.{Tables, view_of}
use Rattle.policy.specs.Sound.{sound_of}
use Rattle.machine.specs.declared.Place.{Place}
use Rattle.machine.specs.Machine.{State, Stands, seat}
use Rattle.machine.specs.Place.{place_of, counts, count_after}
use Rattle.machine.proofs.Laws.Places.{count_none, count_below}
use Rattle.calls.specs.Run.{state_of}
use Rattle.schedule.specs.declared.place.Turn.{Turn}
use Rattle.schedule.specs.Places.{slot_after, place_with}
use Rattle.schedule.proofs.Laws.Places.{moved_in, moved_out}
use Rattle.kernel.specs.Stretch.{ticked_by}
use Rattle.kernel.proofs.Laws.Reached.{Reached, owner_of, reached_none, used_in, reached_more}

-- The place of a turn, with so many of the Run's n ticks left.
abbrev pub place_by : Tables → ℕ → ℕ → Turn → ℕ → Place
place_by t c n turn left = place_with t.slots.ticks turn.slot turn.left (count_after (n - left) c)

-- With `left` of n ticks to do, from count c on: the turn has ticks left, and the state of the ticks done is reached.
pub record Turned (limits : Limits) (t : Tables) (x : State) (c n : ℕ) (m : List ℕ) (turn : Turn) (left : ℕ) : Type 0 where
  pub most : left ≤ n
  pub some : 0 < turn.left
  pub whole : turn.left ≤ get_or t.slots.ticks turn.slot 0
  pub reached : Reached limits t x m (place_by t c n turn left) (n - left)

-- Counts add up.
count_more : (i k c : ℕ) → count_after k (count_after i c) ≡ count_after (i + k) c
count_more i k c = omega arith

module _ (limits : Limits) (t : Tables) (sound : sound_of limits t ≡ true) where
  pub turned_first : (m : List ℕ) (place : Place) (n : ℕ) (turn : Turn) → Stands limits (view_of t) (state_of m place) → place.count < counts
      → turn ≡ record { slot = place.slot; left = get_or t.slots.ticks place.slot 0 - place.used }
      → Turned limits t (state_of m place) place.count n m turn n
  turned_first m place n turn s small e =
      let used : place.used < get_or t.slots.ticks place.slot 0 = used_in limits t sound _ m place 0 (reached_none limits t m place s) in
      let none : n - n ≡ 0 = omega arith in
      let back : get_or t.slots.ticks place.slot 0 - (get_or t.slots.ticks place.slot 0 - place.used) ≡ place.used = omega (arith, used) in
      rw e
      record {
        most = omega arith;
        some = omega (arith, used);
        whole = omega arith;
        reached = rw (none, back, count_none place.count small) (reached_none limits t m place s);
      }

  module _ (x : State) (c n : ℕ) (m : List ℕ) (turn : Turn) (left : ℕ) (r : Turned limits t x c n m turn left) where
    -- As many ticks as are left to the Run and to the slot.
    abbrev After : ℕ → List ℕ → Type 0
    After many m' =
        m' ≡ ticked_by (seat (view_of t) (owner_of t (place_by t c n turn left))) (get_or t.partitions.code (owner_of t (place_by t c n turn left)) 0)
        (get_or t.partitions.save (owner_of t (place_by t c n turn left)) 0) (count_after (n - left) c) many m

    pub room_in : (many : ℕ) → many ≤ turn.left → (place_by t c n turn left).used + many ≤ get_or t.slots.ticks turn.slot 0
    room_in many h = omega (arith, r.whole)

    -- The Run ends in the slot.
    pub ends_in : left < turn.left → (m' : List ℕ) → After left m' → Reached limits t x m' (place_with t.slots.ticks turn.slot (turn.left - left) (count_after n c)) n
    ends_in few m' e =
        let all : n - left + left ≡ n = omega (arith, r.most) in
        let moved = moved_in (view_of t) turn.slot turn.left (count_after (n - left) c) left (count_below (n - left) c) few r.whole in
        let count : count_after left (count_after (n - left) c) ≡ count_after n c = count_more (n - left) left c ∙ ap (λ k. count_after k c) all in
        rw all at
        (reached_more limits t sound x m (place_by t c n turn left) (n - left) r.reached left (room_in left (omega (arith, few))) m'
        (place_with t.slots.ticks turn.slot (turn.left - left) (count_after n c)) e
        (sym (moved ∙ ap (place_with t.slots.ticks turn.slot (turn.left - left)) count)))

    -- The slot ends in the Run.
    pub ends_slot : turn.left ≤ left → (m' : List ℕ) → After turn.left m' → (next : Turn)
        → next ≡ record { slot = slot_after t.slots.count turn.slot; left = get_or t.slots.ticks (slot_after t.slots.count turn.slot) 0 }
        → Turned limits t x c n m' next (left - turn.left)
    ends_slot few m' e next f =
        let done : n - left + turn.left ≡ n - (left - turn.left) = omega (arith, few, r.most) in
        let moved = moved_out (view_of t) turn.slot turn.left (count_after (n - left) c) r.some r.whole in
        let count : count_after turn.left (count_after (n - left) c) ≡ count_after (n - (left - turn.left)) c = count_more (n - left) turn.left c ∙ ap (λ k. count_after k c) done in
        let none : get_or t.slots.ticks (slot_after t.slots.count turn.slot) 0 - get_or t.slots.ticks (slot_after t.slots.count turn.slot) 0 ≡ 0 = omega arith in
        let here = place_of (slot_after t.slots.count turn.slot) 0 (count_after (n - (left - turn.left)) c) in
        let now =
        rw done at
        (reached_more limits t sound x m (place_by t c n turn left) (n - left) r.reached turn.left (room_in turn.left (omega arith)) m' here e
        (sym (moved ∙ ap (place_of (slot_after t.slots.count turn.slot) 0) count))) in
        rw f
        record {
          most = omega (arith, r.most);
          some = used_in limits t sound x m' here _ now;
          whole = omega arith;
          reached = rw none now;
        }
