-- Ticks add up and keep a state standing, Pends set bits by or, and Start writes each save segment whole: so Runs join, Pends may be repeated and
-- exchanged, and no byte of a save segment outlives a Start.
use Prim.Native.Nat.{ℕ, zero, suc, ◌+◌, ◌-◌, ◌≤◌, ◌<◌}
use native.Mathlib.Omega.{arith}
use native.Mathlib.Decide.{ℕ_discrete, dec_lt, dec_le}
use mathlib.Core.Path.{◌≡◌, refl, sym, ◌∙◌, ap}
use mathlib.Core.Bool.{Bool, true, false, cond}
use mathlib.Core.Logic.{◌⊎◌, inl, inr}
use mathlib.Core.List.{List, [], ◌∷◌}
use lib.ListN.{length, get_or, drop, replicate}
use lib.Seq.{sets, length-sets, get_or-take, get_or-drop, ext_get_or}
use borrow.Author.Tests.{le-ltb, eq-eqb}
use Rattle.std.specs.Prelude.{Ok, is_ok}
use Rattle.policy.specs.Limits.{Limits}
use Rattle.policy.specs.View.{View}
use Rattle.policy.specs.Tables.{Tables, view_of}
use Rattle.policy.specs.Lawful.{Lawful}
use Rattle.policy.specs.Sound.{sound_of}
use Rattle.policy.proofs.Lawful.{lawful}
use Rattle.machine.specs.Bytes.{with_part}
use Rattle.machine.specs.Layout.{layout}
use Rattle.machine.specs.Machine.{State, Stands}
use Rattle.machine.proofs.Laws.Parts.{get_d_sets_other, with-sets}
use Rattle.machine.proofs.Laws.Written.{part_put}
use Rattle.calls.specs.Under.{Under, under}
use Rattle.calls.specs.Start.{start_outcome, start_answer, after_start, cleared}
use Rattle.calls.specs.Pend.{with_line, pend_outcome, after_pend}
use Rattle.calls.specs.Run.{most_ticks_of_run, run_outcome, after_ticks, after_run, run_answer}
use Rattle.calls.specs.Lists.{Call, pend, run, step, exec}
use Rattle.calls.specs.Integrators.{RunSplits, RunGoesOn, RunsJoin, PendAnswersAlone, PendTwice, PendsEitherOrder}
use Rattle.calls.specs.Integrators.{SameOthers, StartForgets, StartAfterCalls}
use Rattle.calls.proofs.Laws.Outcomes.{is_ok_lem, run_stands, run_sound, start_whole, start_sound}
use Rattle.calls.proofs.Laws.Pends.{line_again, line_swap, line_length}
use Rattle.calls.proofs.Laws.Ticks.{ticks_stand, ticks_add}

module _ (u : Under) where
  -- A Run that acts, and one that doesn't.
  ran : (x : State) (n : ℕ) → run_outcome u x n ≡ Ok tt → after_run u x n ≡ after_ticks u.view n x
  unfolding after_run
  ran x n e = rw e

  stayed : (x : State) (n : ℕ) → is_ok (run_outcome u x n) ≡ false → after_run u x n ≡ x
  unfolding after_run
  stayed x n e = rw e

  -- Runs that 14 lets pass answer one number.
  one_number : (x : State) (a b : ℕ) → a ≤ most_ticks_of_run → b ≤ most_ticks_of_run → run_outcome u x a ≡ run_outcome u x b
  unfolding run_outcome
  one_number x a b ha hb = rw (le-ltb most_ticks_of_run a ha, le-ltb most_ticks_of_run b hb)

pub runs_join : RunsJoin
runs_join u x a b first second =
    ran u (after_run u x a) b second ∙ ap (after_ticks u.view b) (ran u x a first) ∙ sym (ticks_add u.view a b x)

module _ (limits : Limits) (tables : Tables) where
  abbrev U : Under
  U = under limits tables

  acts_from : (x : State) (n : ℕ) → sound_of limits tables ≡ true → Stands limits (view_of tables) x → n ≤ most_ticks_of_run → run_outcome U x n ≡ Ok tt
  unfolding run_outcome
  acts_from x n sound s few = rw (eq-eqb (length x.memory) limits.memory s.whole, sound, s.placed, le-ltb most_ticks_of_run n few)

  after_stands : (x : State) (n : ℕ) → run_outcome U x n ≡ Ok tt → Stands limits (view_of tables) (after_run U x n)
  after_stands x n done =
      rw (ran U x n done) (ticks_stand limits (view_of tables) n x (lawful limits tables (run_sound U x n done)) (run_stands U x n done))

pub run_goes_on : RunGoesOn
run_goes_on limits tables x a b done few =
    let u = under limits tables in
    acts_from limits tables (after_run u x a) b (run_sound u x a done) (after_stands limits tables x a done) few

pub run_splits : RunSplits
unfolding run_answer
run_splits limits tables x a b few =
    record { same_state = state; same_answer = rw (number, state); first_number = first }
  where
    u : Under
    u = under limits tables

    first : run_outcome u x a ≡ run_outcome u x (a + b)
    first = one_number u x a (a + b) (omega arith) few

    number : run_outcome u x (a + b) ≡ run_outcome u (after_run u x a) b
    number = go (is_ok (run_outcome u x a)) refl
      where
        go : (c : Bool) → is_ok (run_outcome u x a) ≡ c → run_outcome u x (a + b) ≡ run_outcome u (after_run u x a) b
        go true e =
            let done = is_ok_lem (run_outcome u x a) e in
            sym first ∙ done ∙ sym (run_goes_on limits tables x a b done (omega arith))
        go false e = one_number u x (a + b) b few (omega arith) ∙ ap (λ s. run_outcome u s b) (sym (stayed u x a e))

    state : after_run u x (a + b) ≡ after_run u (after_run u x a) b
    state = go (is_ok (run_outcome u x a)) refl
      where
        go : (c : Bool) → is_ok (run_outcome u x a) ≡ c → after_run u x (a + b) ≡ after_run u (after_run u x a) b
        go true e =
            let done = is_ok_lem (run_outcome u x a) e in
            ran u x (a + b) (sym first ∙ done) ∙ sym (runs_join u x a b done (run_goes_on limits tables x a b done (omega arith)))
        go false e =
            stayed u x (a + b) (ap is_ok (sym first) ∙ e)
            ∙ sym (stayed u x a e)
            ∙ sym (stayed u (after_run u x a) b (ap is_ok (sym number ∙ sym first) ∙ e))

module _ (u : Under) where
  pended-length : (m : List ℕ) (p line : ℕ) → length (after_pend u m p line) ≡ length m
  unfolding after_pend
  pended-length m p line = go (is_ok (pend_outcome u m p line))
    where
      go : (b : Bool) → length (cond b (with_line u.view p line m) m) ≡ length m
      go true = line_length u.view p line m
      go false = refl

pub pend_answers_alone : PendAnswersAlone
unfolding pend_outcome
pend_answers_alone u m p line q other = rw (pended-length u m p line)

pub pend_twice : PendTwice
unfolding after_pend
pend_twice u m p line =
    let same = pend_answers_alone u m p line p line in
    (rw same (go (is_ok (pend_outcome u m p line))), same)
  where
    go : (b : Bool) → cond b (with_line u.view p line (cond b (with_line u.view p line m) m)) (cond b (with_line u.view p line m) m)
        ≡ cond b (with_line u.view p line m) m
    go true = line_again u.view p line m
    go false = refl

pub pends_either_order : PendsEitherOrder
unfolding after_pend
pends_either_order u m p line q other =
    let later = pend_answers_alone u m p line q other in
    let sooner = pend_answers_alone u m q other p line in
    (rw (later, sooner) (go (is_ok (pend_outcome u m p line)) (is_ok (pend_outcome u m q other))), sym sooner, later)
  where
    one : Bool → List ℕ → List ℕ
    one b n = cond b (with_line u.view p line n) n

    two : Bool → List ℕ → List ℕ
    two b n = cond b (with_line u.view q other n) n

    go : (b c : Bool) → two c (one b m) ≡ one b (two c m)
    go true true = line_swap u.view q other p line m
    go true false = refl
    go false c = refl

-- Memory as Start leaves it, save segment by save segment.
module _ (limits : Limits) (v : View) (W : Lawful limits v) where
  abbrev zeros : List ℕ
  zeros = replicate layout.size 0

  -- Partition k's save segment put into a memory of the head's size.
  abbrev put : ℕ → List ℕ → List ℕ
  put k m = with_part m (v.base (v.save k)) layout.size zeros

  fits : (k : ℕ) (m : List ℕ) → k < v.partitions → length m ≡ limits.memory → v.base (v.save k) + layout.size ≤ length m
  fits k m hk long = omega (arith, W.inside (v.save k) (W.save_there k hk), W.save_size k hk)

  put_sets : (k : ℕ) (m : List ℕ) → k < v.partitions → length m ≡ limits.memory → put k m ≡ sets m (v.base (v.save k)) zeros
  put_sets k m hk long = with-sets m (v.base (v.save k)) layout.size zeros (fits k m hk long) refl

  cleared_long : (k : ℕ) (m : List ℕ) → k ≤ v.partitions → length m ≡ limits.memory → length (cleared v k m) ≡ limits.memory
  unfolding cleared
  cleared_long zero m hk long = long
  cleared_long (suc k) m hk long =
      let before = cleared_long k m (omega arith) long in
      ap length (put_sets k (cleared v k m) (omega arith) before) ∙ length-sets (cleared v k m) (v.base (v.save k)) zeros ∙ before

  -- A place outside the save segment of one partition, and of all from one on.
  abbrev Outside : ℕ → ℕ → Type 0
  Outside p at = v.base (v.save p) ≤ at → at < v.base (v.save p) + layout.size → ⊥

  abbrev OutsideFrom : ℕ → ℕ → Type 0
  OutsideFrom k at = (p : ℕ) → k ≤ p → p < v.partitions → Outside p at

  outside-one_more : (k at : ℕ) → Outside k at → OutsideFrom (suc k) at → OutsideFrom k at
  outside-one_more k at away out p from hp low high = go (ℕ_discrete k p)
    where
      go : Dec (k ≡ p) → ⊥
      go (yes e) = away (rw e low) (rw e high)
      go (no d) = out p (omega arith) hp low high

  -- Inside a save segment that was put, its bytes stand; outside, what was there before.
  put_inside : (k : ℕ) (m : List ℕ) (at : ℕ) → k < v.partitions → length m ≡ limits.memory →
      v.base (v.save k) ≤ at → at < v.base (v.save k) + layout.size → get_or (put k m) at 0 ≡ get_or zeros (at - v.base (v.save k)) 0
  put_inside k m at hk long low high =
      let base = v.base (v.save k) in
      let place : base + (at - base) ≡ at = omega arith in
      let near : at - base < layout.size = omega arith in
      ap (λ i. get_or (put k m) i 0) (sym place)
      ∙ sym (get_or-drop base (put k m) (at - base) 0)
      ∙ sym (get_or-take layout.size (drop base (put k m)) (at - base) 0 near)
      ∙ ap (λ (l : List ℕ). get_or l (at - base) 0) (part_put m base layout.size zeros (fits k m hk long) refl)

  put_outside : (k : ℕ) (m : List ℕ) (at : ℕ) → k < v.partitions → length m ≡ limits.memory →
      (at < v.base (v.save k)) ⊎ (v.base (v.save k) + layout.size ≤ at) → get_or (put k m) at 0 ≡ get_or m at 0
  put_outside k m at hk long out =
      ap (λ l. get_or l at 0) (put_sets k m hk long) ∙ get_d_sets_other (v.base (v.save k)) at zeros m out

  -- So two memories agree after it at each place where they agreed outside it.
  put_agrees : (k : ℕ) (l r : List ℕ) (at : ℕ) → k < v.partitions → length l ≡ limits.memory → length r ≡ limits.memory →
      (Outside k at → get_or l at 0 ≡ get_or r at 0) → get_or (put k l) at 0 ≡ get_or (put k r) at 0
  put_agrees k l r at hk ll lr agree = go (dec_le (v.base (v.save k)) at) (dec_lt at (v.base (v.save k) + layout.size))
    where
      beside : (at < v.base (v.save k)) ⊎ (v.base (v.save k) + layout.size ≤ at) → Outside k at → get_or (put k l) at 0 ≡ get_or (put k r) at 0
      beside h out = put_outside k l at hk ll h ∙ agree out ∙ sym (put_outside k r at hk lr h)

      go : Dec (v.base (v.save k) ≤ at) → Dec (at < v.base (v.save k) + layout.size) → get_or (put k l) at 0 ≡ get_or (put k r) at 0
      go (yes low) (yes high) = put_inside k l at hk ll low high ∙ sym (put_inside k r at hk lr low high)
      go (yes low) (no high) = beside (inr (omega arith)) (λ a b. high b)
      go (no low) d = beside (inl (omega arith)) (λ a b. low a)

  -- What the first k save segments held is forgotten.
  forgets : (k : ℕ) (m n : List ℕ) → k ≤ v.partitions → length m ≡ limits.memory → length n ≡ limits.memory → SameOthers v m n →
      (at : ℕ) → OutsideFrom k at → get_or (cleared v k m) at 0 ≡ get_or (cleared v k n) at 0
  unfolding cleared
  forgets zero m n hk lm ln same at out = same.same_others at (λ p hp low high. out p (omega arith) hp low high)
  forgets (suc k) m n hk lm ln same at out =
      put_agrees k (cleared v k m) (cleared v k n) at (omega arith) (cleared_long k m (omega arith) lm) (cleared_long k n (omega arith) ln)
      (λ away. forgets k m n (omega arith) lm ln same at (outside-one_more k at away out))

  pub cleared_same : (m n : List ℕ) → length m ≡ limits.memory → SameOthers v m n → cleared v v.partitions m ≡ cleared v v.partitions n
  cleared_same m n lm same =
      let all = v.partitions in
      let ln : length n ≡ limits.memory = sym same.same_length ∙ lm in
      ext_get_or 0 (cleared v all m) (cleared v all n) (cleared_long all m (omega arith) lm ∙ sym (cleared_long all n (omega arith) ln))
      (λ at h. forgets all m n (omega arith) lm ln same at (λ p from below low high. omega arith))

-- A Start that acts.
started : (u : Under) (m : List ℕ) → start_outcome u m ≡ Ok tt → after_start u m ≡ cleared u.view u.view.partitions m
unfolding after_start
started u m e = rw e

-- Start answers by the length of memory alone.
start_number : (u : Under) (m n : List ℕ) → length m ≡ length n → start_outcome u m ≡ start_outcome u n
unfolding start_outcome
start_number u m n e = rw e

start_answers : (u : Under) (m n : List ℕ) → length m ≡ length n → start_answer u m ≡ start_answer u n
unfolding start_answer
start_answers u m n e = rw (start_number u m n e)

pub start_forgets : StartForgets
start_forgets limits tables m n same =
    let u = under limits tables in
    record {
      same_answer = start_answers u m n same.same_length;
      same_memory = λ done. started u m done
          ∙ cleared_same limits (view_of tables) (lawful limits tables (start_sound u m done)) m n (start_whole u m done) same
          ∙ sym (started u n (sym (start_number u m n same.same_length) ∙ done));
    }

module _ (limits : Limits) (tables : Tables) where
  -- Calls keep the length of memory.
  step_long : (c : Call) (x : State) → length (step (under limits tables) c x).memory ≡ length x.memory
  unfolding step
  step_long (pend p line) x = pended-length (under limits tables) x.memory p line
  step_long (run n) x = go (is_ok (run_outcome (under limits tables) x n)) refl
    where
      u : Under
      u = under limits tables

      go : (b : Bool) → is_ok (run_outcome u x n) ≡ b → length (after_run u x n).memory ≡ length x.memory
      go true e =
          let done = is_ok_lem (run_outcome u x n) e in
          (after_stands limits tables x n done).whole ∙ sym (run_stands u x n done).whole
      go false e = ap (λ (s : State). length s.memory) (stayed u x n e)

  exec_long : (cs : List Call) (x : State) → length (exec (under limits tables) cs x).memory ≡ length x.memory
  unfolding exec
  exec_long [] x = refl
  exec_long (c ∷ cs) x = exec_long cs (step (under limits tables) c x) ∙ step_long c x

pub start_after_calls : StartAfterCalls
start_after_calls limits tables cs x =
    let u = under limits tables in
    let long = exec_long limits tables cs x in (
      start_answers u (exec u cs x).memory x.memory long,
      λ n same done. (start_forgets limits tables (exec u cs x).memory n same).same_memory (start_number u (exec u cs x).memory x.memory long ∙ done),
    )
