-- The count along ticks and lists, by induction on them; and that ticks which do not fetch 15 do the same at each count.
use Prim.Native.Nat.{zero, suc, ◌<◌, zero-le, suc-le-suc}
use mathlib.Core.Path.{◌≡◌, refl, sym, ◌∙◌, ap, ap₂}
use mathlib.Core.Bool.{Bool, true, false, cond}
use mathlib.Core.List.{List, [], ◌∷◌}
use Rattle.std.specs.Prelude.{Ok, Err, is_ok}
use Rattle.std.specs.Result.{result_and, result_unwrap_or}
use native.Mathlib.Omega.{arith}
use Rattle.policy.specs.View.{View}
use Rattle.machine.specs.Place.{next_slot, next_used, counts, count_after}
use Rattle.machine.specs.Tick.{tick_of}
use Rattle.machine.specs.Machine.{State, seat, next}
use Rattle.machine.specs.Fetches.{Fetches}
use Rattle.machine.proofs.Laws.Places.{count_none, count_more, count_one, count_below}
use Rattle.machine.proofs.Count.{tick_unread}
use Rattle.calls.specs.Under.{Under}
use Rattle.calls.specs.Outcomes.{Outcome}
use Rattle.calls.specs.Start.{start_place, start_outcome, start_answer, after_start}
use Rattle.calls.specs.Run.{state_of, after_ticks, run_outcome, after_run}
use Rattle.calls.specs.Lists.{Call, pend, run, step, exec, did, ticks}
use Rattle.calls.specs.Count.{Counted, Started, SameButCount, CountUnread}

pub counted : Counted
unfolding after_ticks next
counted v zero x h = sym (count_none x.place.count h)
counted v (suc n) x h = counted v n (next v x) (count_below 1 x.place.count) ∙ count_one n x.place.count

module _ (u : Under) where
  call_counts : (c : Call) (x : State) → x.place.count < counts → (step u c x).place.count ≡ count_after (did u c x) x.place.count
  unfolding step did after_run
  call_counts (pend p line) x h = sym (count_none x.place.count h)
  call_counts (run n) x h = go (is_ok (run_outcome u x n))
    where
      go : (b : Bool) → (cond b (after_ticks u.view n x) x).place.count ≡ count_after (cond b n 0) x.place.count
      go true = counted u.view n x h
      go false = sym (count_none x.place.count h)

  pub list_counts : (cs : List Call) (x : State) → x.place.count < counts → (exec u cs x).place.count ≡ count_after (ticks u cs x) x.place.count
  unfolding exec ticks
  list_counts [] x h = sym (count_none x.place.count h)
  list_counts (c ∷ cs) x h =
      let first = call_counts c x h in
      list_counts cs (step u c x) (rw first (count_below (did u c x) x.place.count))
      ∙ ap (count_after (ticks u cs (step u c x))) first
      ∙ count_more x.place.count (did u c x) (ticks u cs (step u c x))

-- Refused or not.
start_place_lem : (o : Outcome) → result_unwrap_or (result_and o (Ok start_place)) start_place ≡ start_place
start_place_lem (Ok acted) = refl
start_place_lem (Err refused) = refl

pub started : Started
unfolding start_answer
started u memory cs = rw (start_place_lem (start_outcome u memory)) (list_counts u cs (state_of (after_start u memory) start_place) (omega arith))

next_unread : (v : View) (x y : State) → SameButCount x y → (Fetches v x 15 → ⊥) → SameButCount (next v x) (next v y)
unfolding next
next_unread v x y r free =
    record {
      same_memory = tick_unread v x free y.place.count
          ∙ ap₂ (λ s m. let p = v.owner s in tick_of (seat v p) (v.code p) (v.save p) y.place.count m) r.same_slot r.same_memory;
      same_slot = ap₂ (next_slot v) r.same_slot r.same_used;
      same_used = ap₂ (next_used v) r.same_slot r.same_used;
    }

pub count_unread : CountUnread
unfolding after_ticks
count_unread v zero x y r free = r
count_unread v (suc n) x y r free =
    count_unread v n (next v x) (next v y) (next_unread v x y r (free 0 (suc-le-suc zero-le))) (λ k below. free (suc k) (suc-le-suc below))
