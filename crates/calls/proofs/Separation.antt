-- Demand 3: one tick is source document 003's separation, and over whole runs one relation between states is carried along the normal forms of the
-- two lists, since the sources of a segment are closed under flow lines into them and gaps with the same lines leave equal bytes.
use Prim.Native.Nat.{ℕ, zero, suc, ◌+◌, ◌≤◌, ◌<◌}
use native.Mathlib.Omega.{arith}
use mathlib.Core.Path.{◌≡◌, refl, ◌∙◌, ap}
use mathlib.Core.Bool.{Bool, true, false, cond}
use mathlib.Core.Logic.{inl, inr, ◌↔◌}
use mathlib.Core.List.{List, [], ◌∷◌, Memᴰ}
use lib.ListN.{length}
use Rattle.std.specs.Prelude.{is_ok}
use Rattle.policy.specs.Limits.{Limits}
use Rattle.policy.specs.View.{View}
use Rattle.policy.specs.Tables.{view_of}
use Rattle.policy.specs.Chain.{FlowLine, Chain, one, more}
use Rattle.policy.specs.Lawful.{Lawful}
use Rattle.policy.proofs.Accepted.{sound_lawful}
use Rattle.machine.specs.Place.{is_place, moved}
use Rattle.machine.specs.Machine.{State, Stands, select, next}
use Rattle.machine.proofs.OneTick.{separation, next_stands}
use Rattle.calls.specs.Under.{Under, under}
use Rattle.calls.specs.Run.{state_of, after_ticks, run_outcome, after_run}
use Rattle.calls.specs.Lists.{Call, pend, run, step, exec, did, ticks, SamePended, Source}
use Rattle.calls.specs.Separation.{OneTick, EndAlike, WholeRuns}
use Rattle.calls.proofs.Laws.Outcomes.{is_ok_lem, pend_partition, run_place}
use Rattle.calls.proofs.Plan.{Pend, Gaps, filled, plan, gaps, exec_plan, pended→has, has→pended}
use Rattle.calls.proofs.Gap.{Named, pends_length, gap_same}

pub one_tick : OneTick
one_tick limits tables sound t ht x y sx sy current counts bytes sources =
    separation limits (view_of tables) (sound_lawful limits tables sound) t x y ht sx sy current counts bytes sources

-- A flow line into a source comes from a source.
chain_closed : {v : View} {s u t : ℕ} → FlowLine v s u → Chain v u t → Source v t s
chain_closed f c = inr (more (record { from = f.from; to = f.to; stands = f.stands }) c)

source_closed : {v : View} {s u t : ℕ} → FlowLine v s u → Source v t u → Source v t s
source_closed f (inl e) = inr (one (rw e at f))
source_closed f (inr c) = chain_closed f c

source_there : {v : View} {s t : ℕ} → t < v.segments → Source v t s → s < v.segments
source_there ht (inl e) = rw e ht
source_there ht (inr (one f)) = f.from
source_there ht (inr (more f c)) = f.from

-- The relation: equal bytes in all sources of t, equal places, and memories of their size.
pub record Same (limits : Limits) (v : View) (t : ℕ) (x y : State) : Type 0 where
  pub bytes : (s : ℕ) → Source v t s → select v s x ≡ select v s y
  pub place : x.place ≡ y.place
  pub whole : length x.memory ≡ limits.memory
  pub whole' : length y.memory ≡ limits.memory

-- The same lines for each partition whose save segment is a source of t.
abbrev pub SameGap : View → ℕ → List Pend → List Pend → Type 0
SameGap v t g h = (p line : ℕ) → p < v.partitions → Source v t (v.save p) → Memᴰ (p, line) g ↔ Memᴰ (p, line) h

module _ (limits : Limits) (v : View) (W : Lawful limits v) (t : ℕ) (ht : t < v.segments) where
  next_keeps : (x y : State) → is_place v x.place ≡ true → Same limits v t x y → Same limits v t (next v x) (next v y)
  unfolding next
  next_keeps x y px r =
      record {
        bytes = λ s c. separation limits v W s x y (source_there ht c) sx sy (ap (λ a. v.owner a.slot) r.place) (ap (λ a. a.count) r.place) (r.bytes s c)
            (λ u g d. r.bytes u (source_closed d c));
        place = ap (moved v) r.place;
        whole = (next_stands limits v W x sx).whole;
        whole' = (next_stands limits v W y sy).whole;
      }
    where
      sx : Stands limits v x
      sx = record { whole = r.whole; placed = px }

      sy : Stands limits v y
      sy = record { whole = r.whole'; placed = rw (← r.place) px }

  gap_keeps : (g h : List Pend) (x y : State) → Named v g → Named v h → SameGap v t g h → Same limits v t x y → Same limits v t (filled v g x) (filled v h y)
  gap_keeps g h x y ng nh same r =
      record {
        bytes = λ s c. gap_same limits v W s (source_there ht c) g h x.memory y.memory ng nh
            (λ z e. (λ i. (same z.0 z.1 (ng z i) (rw e c)).0 i, λ i. (same z.0 z.1 (nh z i) (rw e c)).1 i))
            (r.bytes s c);
        place = r.place;
        whole = pends_length v g x.memory ∙ r.whole;
        whole' = pends_length v h y.memory ∙ r.whole';
      }

  plan_keeps : (n : ℕ) (f h : Gaps) (x y : State) → ((k : ℕ) → Named v (f k)) → ((k : ℕ) → Named v (h k)) → ((k : ℕ) → k ≤ n → SameGap v t (f k) (h k))
      → (0 < n → is_place v x.place ≡ true) → Same limits v t x y → Same limits v t (plan v n f x) (plan v n h y)
  unfolding plan
  plan_keeps zero f h x y nf nh same px r = gap_keeps (f 0) (h 0) x y (nf 0) (nh 0) (same 0 (omega arith)) r
  plan_keeps (suc n) f h x y nf nh same px r =
      let gap : Same limits v t (filled v (f 0) x) (filled v (h 0) y) = gap_keeps (f 0) (h 0) x y (nf 0) (nh 0) (same 0 (omega arith)) r in
      plan_keeps n (λ k. f (suc k)) (λ k. h (suc k)) (next v (filled v (f 0) x)) (next v (filled v (h 0) y))
      (λ k. nf (suc k)) (λ k. nh (suc k)) (λ k l. same (suc k) (omega arith))
      (λ l. (next_stands limits v W (filled v (f 0) x) (record { whole = gap.whole; placed = px (omega arith) })).placed)
      (next_keeps (filled v (f 0) x) (filled v (h 0) y) (px (omega arith)) gap)

module _ (u : Under) where
  -- A list that does a tick does it from a place that Run takes.
  ticks_placed : (cs : List Call) (x : State) → 0 < ticks u cs x → is_place u.view x.place ≡ true
  unfolding ticks did step after_run
  ticks_placed [] x h = absurd (omega arith)
  ticks_placed (pend p line ∷ cs) x h = ticks_placed cs (step u (pend p line) x) (omega arith)
  ticks_placed (run n ∷ cs) x h = go (is_ok (run_outcome u x n)) refl h (λ i. ticks_placed cs x i)
    where
      go : (b : Bool) → is_ok (run_outcome u x n) ≡ b → 0 < cond b n 0 + ticks u cs (cond b (after_ticks u.view n x) x)
          → (0 < ticks u cs x → is_place u.view x.place ≡ true) → is_place u.view x.place ≡ true
      go true e i below = run_place u x n (is_ok_lem (run_outcome u x n) e)
      go false e i below = below (omega arith)

  gaps_named : (cs : List Call) (x : State) (k : ℕ) → Named u.view (gaps u cs x k)
  gaps_named cs x k z i = pend_partition u _ z.0 z.1 (has→pended u cs x k z.0 z.1 i).not_refused

-- What the relation gives at the end.
end_alike : (limits : Limits) (v : View) (t : ℕ) (x y : State) → Same limits v t x y → EndAlike v t x y
end_alike limits v t x y r =
    record {
      same_bytes = r.bytes t (inl refl);
      same_slot = ap (λ a. a.slot) r.place;
      same_used = ap (λ a. a.used) r.place;
      same_count = ap (λ a. a.count) r.place;
    }

pub whole_runs : WholeRuns
unfolding SamePended
whole_runs limits tables sound t ht cs ds m n place lm ln alike = end_alike limits v t (exec u cs x) (exec u ds y) ends
  where
    u : Under
    u = under limits tables

    v : View
    v = view_of tables

    x : State
    x = state_of m place

    y : State
    y = state_of n place

    begins : Same limits v t x y
    begins = record { bytes = alike.same_sources; place = refl; whole = lm; whole' = ln }

    lines : (k : ℕ) → k ≤ ticks u cs x → SameGap v t (gaps u cs x k) (gaps u ds y k)
    lines k l p line hp c =
        let w = alike.same_lines p hp c k (omega arith) line in
        (λ i. pended→has u (w.0 (has→pended u cs x k p line i)), λ i. pended→has u (w.1 (has→pended u ds y k p line i)))

    ends : Same limits v t (exec u cs x) (exec u ds y)
    ends =
        rw (exec_plan u cs x, exec_plan u ds y, ← alike.same_ticks)
        (plan_keeps limits v (sound_lawful limits tables sound) t ht (ticks u cs x) (gaps u cs x) (gaps u ds y) x y
        (gaps_named u cs x) (gaps_named u ds y) lines (ticks_placed u cs x) begins)
