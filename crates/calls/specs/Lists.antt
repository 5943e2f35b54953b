-- 01, "Separation over whole runs": lists of Pend and Run calls under one policy, and when a line is pended.
use Rattle.std.specs.Prelude.{ℕ, ◌+◌, ◌≤◌, ◌≡◌, ◌⊎◌, ◌↔◌, List, [], ◌∷◌, ◌++◌, Ok}
use Rattle.policy.specs.View.{View}
use Rattle.policy.specs.Chain.{Chain}
use Rattle.machine.specs.Machine.{State}
use Rattle.calls.specs.Under.{Under}
use Rattle.calls.specs.Outcomes.{acts}
use Rattle.calls.specs.Pend.{pend_outcome, after_pend}
use Rattle.calls.specs.Run.{state_of, run_outcome, after_run}

pub data Call : Type 0 where
  -- Pend a line for a partition: partition, line
  pend : ℕ → ℕ → Call
  -- Run that many ticks
  run : ℕ → Call

module _ (u : Under) where
  -- "Each call gets the memory that the call before left, each Run the place that the Run before returned"
  unfoldable pub step : Call → State → State
  step (pend partition line) x = state_of (after_pend u x.memory partition line) x.place
  step (run n) x = after_run u x n

  unfoldable pub exec : List Call → State → State
  exec [] x = x
  exec (c ∷ cs) x = exec cs (step c x)

  -- "A Run that acts does its n ticks, a refused one none."
  unfoldable pub did : Call → State → ℕ
  did (pend partition line) x = 0
  did (run n) x = acts (run_outcome u x n) n 0

  -- The ticks of a list in all.
  unfoldable pub ticks : List Call → State → ℕ
  ticks [] x = 0
  ticks (c ∷ cs) x = did c x + ticks cs (step c x)

  -- "A line is pended for p after k ticks if a Pend of it for p that isn't refused stands where the Runs before it in
  -- its list have done k ticks in all."
  pub record PendedAfter (cs : List Call) (x : State) (k p line : ℕ) : Type 0 where
    pub before : List Call
    pub later : List Call
    pub stands : cs ≡ before ++ (pend p line ∷ later)
    pub ticks_before : ticks before x ≡ k
    pub not_refused : pend_outcome u (exec before x).memory p line ≡ Ok tt

  -- ""The same lines pended between the same ticks" means: for each k from 0 to the ticks in all, the same lines are
  -- pended for p after k ticks in both lists."
  unfoldable pub SamePended : List Call → State → List Call → State → ℕ → ℕ → Type 0
  SamePended cs x ds y all p = (k : ℕ) → k ≤ all → (line : ℕ) → PendedAfter cs x k p line ↔ PendedAfter ds y k p line

-- "a segment and all segments from which a chain of flow lines leads to it"
abbrev pub Source : View → ℕ → ℕ → Type 0
Source v t s = (s ≡ t) ⊎ Chain v s t
