-- What a list of calls does is what its normal form does, gaps of Pends that act with a tick between one gap and the next, and a line is pended
-- after k ticks if and only if it stands in gap k: by induction on the list, with nothing asked of the policy.
use Prim.Native.Nat.{ℕ, zero, suc, ◌+◌}
use native.Mathlib.Nat.{zero-add, suc-add}
use mathlib.Core.Path.{◌≡◌, refl, sym, ◌∙◌, ap}
use mathlib.Core.Bool.{Bool, true, false, cond}
use mathlib.Core.Logic.{◌⊎◌, inl, inr, ⊎_elim}
use mathlib.Core.List.Memᴰ
use mathlib.Core.List.{List, [], ◌∷◌, ◌++◌, Memᴰ}
use Rattle.std.specs.Prelude.{Ok, is_ok}
use Rattle.policy.specs.View.{View}
use Rattle.machine.specs.Machine.{State, next}
use Rattle.calls.specs.Under.{Under}
use Rattle.calls.specs.Pend.{with_line, pend_outcome, after_pend}
use Rattle.calls.specs.Run.{state_of, after_ticks, run_outcome, after_run}
use Rattle.calls.specs.Lists.{Call, pend, run, step, exec, did, ticks, PendedAfter}
use Rattle.calls.proofs.Laws.Outcomes.{is_ok_lem}

-- A Pend that acts: the partition and the line.
abbrev pub Pend : Type 0
Pend = ℕ × ℕ

-- What is pended after each number of ticks.
abbrev pub Gaps : Type 0
Gaps = ℕ → List Pend

-- One Pend more, ahead of all others, if it acts.
ahead : Bool → Pend → Gaps → Gaps
ahead true x f zero = x ∷ f zero
ahead true x f (suc k) = f (suc k)
ahead false x f k = f k

-- The gaps moved n ticks on.
later : ℕ → Gaps → Gaps
later zero f k = f k
later (suc n) f zero = []
later (suc n) f (suc k) = later n f k

ahead_keeps : (b : Bool) (x : Pend) (f : Gaps) (k : ℕ) {y : Pend} → Memᴰ y (f k) → Memᴰ y (ahead b x f k)
unfolding ahead
ahead_keeps true x f zero h = Memᴰ.tail h
ahead_keeps true x f (suc k) h = h
ahead_keeps false x f k h = h

ahead_cases : (b : Bool) (x : Pend) (f : Gaps) (k : ℕ) {y : Pend} → Memᴰ y (ahead b x f k) → ((b ≡ true) × (k ≡ 0) × (y ≡ x)) ⊎ Memᴰ y (f k)
unfolding ahead
ahead_cases true x f zero h = ⊎_elim (λ e. inl (refl, refl, e)) (λ t. inr t) (Memᴰ.cases_cons h)
ahead_cases true x f (suc k) h = inr h
ahead_cases false x f k h = inr h

later_at : (n k : ℕ) (f : Gaps) → later n f (n + k) ≡ f k
unfolding later
later_at zero k f = rw zero-add
later_at (suc n) k f = rw suc-add (later_at n k f)

later_cases : (n k : ℕ) (f : Gaps) {y : Pend} → Memᴰ y (later n f k) → (j : ℕ) × (n + j ≡ k) × Memᴰ y (f j)
unfolding later
later_cases zero k f h = (k, zero-add k, h)
later_cases (suc n) zero f h = absurd (Memᴰ.not-nil h)
later_cases (suc n) (suc k) f h = let r = later_cases n k f h in (r.0, suc-add n r.0 ∙ ap suc r.1, r.2)

module _ (v : View) where
  unfoldable pub pend_all : List Pend → List ℕ → List ℕ
  pend_all [] m = m
  pend_all (x ∷ g) m = pend_all g (with_line v x.0 x.1 m)

  -- The state after the Pends of a gap.
  abbrev pub filled : List Pend → State → State
  filled g x = state_of (pend_all g x.memory) x.place

  -- n ticks, with a gap before each and one after the last.
  unfoldable pub plan : ℕ → Gaps → State → State
  plan zero f x = filled (f 0) x
  plan (suc n) f x = plan n (λ k. f (suc k)) (next v (filled (f 0) x))

  plan_ahead : (b : Bool) (n : ℕ) (z : Pend) (f : Gaps) (x : State)
      → plan n (ahead b z f) x ≡ plan n f (state_of (cond b (with_line v z.0 z.1 x.memory) x.memory) x.place)
  unfolding plan ahead pend_all
  plan_ahead true zero z f x = refl
  plan_ahead true (suc n) z f x = refl
  plan_ahead false zero z f x = refl
  plan_ahead false (suc n) z f x = refl

  plan_later : (n k : ℕ) (f : Gaps) (x : State) → plan (n + k) (later n f) x ≡ plan k f (after_ticks v n x)
  unfolding plan later pend_all after_ticks
  plan_later zero k f x = rw zero-add
  plan_later (suc n) k f x = rw suc-add (plan_later n k f (next v x))

  plan_run : (b : Bool) (n k : ℕ) (f : Gaps) (x : State) → plan (cond b n 0 + k) (later (cond b n 0) f) x ≡ plan k f (cond b (after_ticks v n x) x)
  unfolding after_ticks
  plan_run true n k f x = plan_later n k f x
  plan_run false n k f x = plan_later 0 k f x

module _ (u : Under) where
  -- Which Pends of a list act after k ticks.
  pub gaps : List Call → State → Gaps
  gaps [] x k = []
  gaps (pend p line ∷ cs) x k = ahead (is_ok (pend_outcome u x.memory p line)) (p, line) (gaps cs (step u (pend p line) x)) k
  gaps (run n ∷ cs) x k = later (did u (run n) x) (gaps cs (step u (run n) x)) k

  -- What a list does is what its normal form does.
  pub exec_plan : (cs : List Call) (x : State) → exec u cs x ≡ plan u.view (ticks u cs x) (gaps cs x) x
  unfolding exec ticks gaps step after_pend after_run did plan pend_all
  exec_plan [] x = refl
  exec_plan (pend p line ∷ cs) x =
      let y : State = step u (pend p line) x in
      rw zero-add
      (exec_plan cs y
      ∙ sym (plan_ahead u.view (is_ok (pend_outcome u x.memory p line)) (ticks u cs y) (p, line) (gaps cs y) x))
  exec_plan (run n ∷ cs) x =
      let y : State = step u (run n) x in
      exec_plan cs y
      ∙ sym (plan_run u.view (is_ok (run_outcome u x n)) n (ticks u cs y) (gaps cs y) x)

  -- A Pend that acts, after k ticks, stands in gap k.
  has : (before after : List Call) (x : State) (p line : ℕ) → pend_outcome u (exec u before x).memory p line ≡ Ok tt
      → Memᴰ (p, line) (gaps (before ++ (pend p line ∷ after)) x (ticks u before x))
  unfolding exec ticks gaps did ahead
  has [] after x p line h = rw h (Memᴰ.head refl)
  has (pend q j ∷ cs) after x p line h =
      let y : State = step u (pend q j) x in
      rw zero-add
      (ahead_keeps (is_ok (pend_outcome u x.memory q j)) (q, j) (gaps (cs ++ (pend p line ∷ after)) y) (ticks u cs y)
      (has cs after y p line h))
  has (run n ∷ cs) after x p line h = rw later_at (has cs after (step u (run n) x) p line h)

  pub pended→has : {cs : List Call} {x : State} {k p line : ℕ} → PendedAfter u cs x k p line → Memᴰ (p, line) (gaps cs x k)
  pended→has {cs} {x} {k} {p} {line} h = rw (h.stands, ← h.ticks_before) (has h.before h.later x p line h.not_refused)

  here : {cs : List Call} {x : State} {k p line q j : ℕ} → pend_outcome u x.memory q j ≡ Ok tt → k ≡ 0 → ◌≡◌ {A = Pend} (p, line) (q, j)
      → PendedAfter u (pend q j ∷ cs) x k p line
  unfolding exec ticks
  here {cs} {x} {k} {p} {line} {q} {j} e z i =
      let u : p ≡ q = ap (λ x. x.0) i in
      let w : line ≡ j = ap (λ x. x.1) i in
      record { before = []; later = cs; stands = rw (u, w); ticks_before = sym z; not_refused = rw (u, w) e }

  further : {c : Call} {cs : List Call} {x : State} {j k p line : ℕ} → did u c x + j ≡ k → PendedAfter u cs (step u c x) j p line
      → PendedAfter u (c ∷ cs) x k p line
  unfolding exec ticks
  further {c} e r =
      record {
        before = c ∷ r.before;
        later = r.later;
        stands = ap (λ z. c ∷ z) r.stands;
        ticks_before = rw r.ticks_before e;
        not_refused = r.not_refused;
      }

  pub has→pended : (cs : List Call) (x : State) (k p line : ℕ) → Memᴰ (p, line) (gaps cs x k) → PendedAfter u cs x k p line
  unfolding gaps did
  has→pended [] x k p line h = absurd (Memᴰ.not-nil h)
  has→pended (pend q j ∷ cs) x k p line h =
      let y : State = step u (pend q j) x in
      ⊎_elim
      (λ w. here (is_ok_lem (pend_outcome u x.memory q j) w.0) w.1 w.2)
      (λ t. further (zero-add k) (has→pended cs y k p line t))
      (ahead_cases (is_ok (pend_outcome u x.memory q j)) (q, j) (gaps cs y) k h)
  has→pended (run n ∷ cs) x k p line h =
      let y : State = step u (run n) x in
      let w = later_cases (did u (run n) x) k (gaps cs y) h in
      further w.1 (has→pended cs y w.0 p line w.2)
