-- What a Run has reached after some ticks: the state of so many ticks, and one that stands. A stretch of the present slot's partition and a move of
-- the place reach as many ticks more, since that is what so many of the machine's ticks are.
use Rattle.std.proofs.Common.{◌≡◌, ℕ, zero, suc, ◌+◌, ◌<◌, ◌≤◌, true, List, length, get_or, sym, refl, ap, ◌∙◌, lt_of_lt_of_le, arith}
use Rattle.policy.specs.Limits.{Limits, most_ticks}
use Rattle.policy.specs.View.{View}
use Rattle.policy.specs.Lawful.{Lawful}
use Rattle.policy.specs.Tables.{Tables, view_of}
use Rattle.policy.specs.Sound.{sound_of}
use Rattle.policy.proofs.Lawful.{lawful}
use Rattle.machine.specs.declared.Place.{Place}
use Rattle.machine.specs.Machine.{State, Stands, seat, next}
use Rattle.machine.specs.Place.{place_of, count_after}
use Rattle.machine.specs.Tick.{tick_of}
use Rattle.machine.proofs.Laws.Places.{slot_there, used_below}
use Rattle.tick.specs.Seat.{Seated}
use Rattle.tick.proofs.Laws.Record.{record_seated}
use Rattle.calls.specs.Run.{state_of, after_ticks}
use Rattle.calls.proofs.Laws.Ticks.{ticks_stand, ticks_add}
use Rattle.schedule.specs.Places.{moved_by}
use Rattle.schedule.proofs.Laws.Places.{moved_within}
use Rattle.kernel.specs.Stretch.{ticked_by}

-- The partition of the present slot.
abbrev pub owner_of : Tables → Place → ℕ
owner_of t here = get_or t.slots.owner here.slot 0

pub record Reached (limits : Limits) (t : Tables) (x : State) (m : List ℕ) (here : Place) (i : ℕ) : Type 0 where
  pub stands : Stands limits (view_of t) (state_of m here)
  pub state : state_of m here ≡ after_ticks (view_of t) i x

pub reached_none : (limits : Limits) (t : Tables) (m : List ℕ) (here : Place) → Stands limits (view_of t) (state_of m here) → Reached limits t (state_of m here) m here 0
unfolding after_ticks
reached_none limits t m here s = record { stands = s; state = refl }

-- In one slot, ticks of a Run are ticks of the slot's partition.
ticks_stretch : (v : View) (n : ℕ) (m : List ℕ) (here : Place) → here.used + n ≤ v.ticks here.slot
    → after_ticks v n (state_of m here)
    ≡ state_of (ticked_by (seat v (v.owner here.slot)) (v.code (v.owner here.slot)) (v.save (v.owner here.slot)) here.count n m) (moved_by v n here)
unfolding after_ticks next ticked_by moved_by
ticks_stretch v zero m here h = refl
ticks_stretch v (suc zero) m here h = refl
ticks_stretch v (suc (suc n)) m here h =
    let p = v.owner here.slot in
    let e = moved_within v here (omega arith) in
    let m' = tick_of (seat v p) (v.code p) (v.save p) here.count m in
    let one = count_after 1 here.count in
    ap (λ a. after_ticks v (suc n) (state_of m' a)) e
    ∙ ticks_stretch v (suc n) m' (place_of here.slot (here.used + 1) one) (omega arith)
    ∙ ap (λ a. state_of (ticked_by (seat v p) (v.code p) (v.save p) one (suc n) m') (moved_by v (suc n) a)) (sym e)

module _ (limits : Limits) (t : Tables) (sound : sound_of limits t ≡ true) (x : State) (m : List ℕ) (here : Place) (i : ℕ) (r : Reached limits t x m here i) where
  w : Lawful limits (view_of t)
  w = lawful limits t sound

  pub slot_in_lem : here.slot < t.slots.count
  slot_in_lem = slot_there (view_of t) here r.stands.placed

  pub used_in : here.used < get_or t.slots.ticks here.slot 0
  used_in = used_below (view_of t) here r.stands.placed

  pub many_few : (many : ℕ) → here.used + many ≤ get_or t.slots.ticks here.slot 0 → here.used + many ≤ most_ticks
  many_few many h = omega (arith, w.ticks_most here.slot slot_in_lem)

  pub slot_below : here.slot < limits.slots
  slot_below = lt_of_lt_of_le slot_in_lem w.few_slots

  owner_in : owner_of t here < t.partitions.count
  owner_in = w.owner_there here.slot slot_in_lem

  pub owner_below : owner_of t here < limits.partitions
  owner_below = lt_of_lt_of_le owner_in w.few_partitions

  pub tick_fits : limits.segments ≤ 64 → length t.segments.base ≡ limits.segments → length t.segments.size ≡ limits.segments
      → Seated t.segments.base t.segments.size t.segments.count (get_or t.partitions.code (owner_of t here) 0) (get_or t.partitions.save (owner_of t here) 0) (length m)
  tick_fits fits bases sizes = rw r.stands.whole (record_seated limits t (owner_of t here) fits bases sizes w owner_in)

  pub reached_more : (many : ℕ) → here.used + many ≤ get_or t.slots.ticks here.slot 0 → (m' : List ℕ) (here' : Place)
      → m' ≡ ticked_by (seat (view_of t) (owner_of t here)) (get_or t.partitions.code (owner_of t here) 0) (get_or t.partitions.save (owner_of t here) 0) here.count many m
      → here' ≡ moved_by (view_of t) many here
      → Reached limits t x m' here' (i + many)
  reached_more many h m' here' e f =
      let v = view_of t in
      let steps : state_of m' here' ≡ after_ticks v many (state_of m here) = rw (e, f) (sym (ticks_stretch v many m here h)) in
      record {
        stands = rw steps (ticks_stand limits v many (state_of m here) w r.stands);
        state = rw (ticks_add v i many x, ← r.state) steps;
      }
