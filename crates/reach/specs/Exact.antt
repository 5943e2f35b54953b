-- What is proved of the report and the question; the proofs are in proofs/.
use Rattle.std.specs.Prelude.{ℕ, ◌<◌, ◌≡◌, true, ◌⊎◌, ◌↔◌, get_or, Err, IsOk}
use mathlib.Core.List.{List, [], ◌∷◌, Memᴰ}
use Rattle.bits.specs.Masks.{has}
use Rattle.policy.specs.declared.record.NoAnswer.TheVariants.{Unsound, NoSegment}
use Rattle.policy.specs.Below.{list_below}
use Rattle.policy.specs.View.{View}
use Rattle.policy.specs.Chain.{Chain}
use Rattle.calls.specs.Under.{Under}
use Rattle.calls.specs.Lists.{Source}
use Rattle.reach.specs.Via.{reaches}
use Rattle.reach.specs.Rows.{those_below, row_of, report_of}
use Rattle.reach.specs.Answers.{reach_answer, can_reach_answer, rows_shown, yes_shown}

-- "A chain may have any length, and the report must be exact." The chain is document 01's, the one that demand 3 speaks of.
abbrev pub Exact : View → Type 0
Exact v = (s t : ℕ) → s < v.segments → t < v.segments → (reaches v s t ≡ true) ↔ Chain v s t

-- "ascending": each number is below those after it.
abbrev pub Below : ℕ → List ℕ → Type 0
Below n ns = (m : ℕ) → Memᴰ m ns → n < m

pub data Ascending : List ℕ → Type 0 where
  none : Ascending []
  then : {n : ℕ} {ns : List ℕ} → Below n ns → Ascending ns → Ascending (n ∷ ns)

-- "for each segment, all segments from which a chain of one or more flow lines leads to it, ascending"
pub record RowExact (v : View) (t : ℕ) : Type 0 where
  pub just : (s : ℕ) → Memᴰ s (row_of v t) ↔ Chain v s t
  pub ascends : Ascending (row_of v t)
  pub segments : (s : ℕ) → Memᴰ s (row_of v t) → s < v.segments

-- "itself too if a chain returns"
abbrev pub Self : View → ℕ → Type 0
Self v t = Memᴰ t (row_of v t) ↔ Chain v t t

-- Demand 3 lets "a segment and all segments from which a chain of flow lines leads to it begin equal": the row of t with t added.
abbrev pub Sources : View → ℕ → Type 0
Sources v t = (s : ℕ) → ((s ≡ t) ⊎ Memᴰ s (row_of v t)) ↔ Source v t s

-- A report's mask is the row.
abbrev pub MaskExact : Under → ℕ → Type 0
MaskExact u t = (s : ℕ) → (has (get_or (rows_shown u) t 0) s ≡ true) ↔ Memᴰ s (row_of u.view t)

-- All masks together are the report.
abbrev pub MasksReport : Under → Type 0
MasksReport u =
    list_below u.view.segments (λ t. those_below u.view.segments (has (get_or (rows_shown u) t 0))) ≡ report_of u.view

-- "always agrees with the report": of every record, sound or not, and of every two numbers.
pub record Agrees (u : Under) (s t : ℕ) : Type 0 where
  pub yes : yes_shown u s t ≡ has (get_or (rows_shown u) t 0) s
  -- 10 on both
  pub unsound : (can_reach_answer u s t ≡ Err Unsound) ↔ (reach_answer u ≡ Err Unsound)
  -- 15 has no row: the report is answered, and s or t isn't a segment
  pub no_segment :
      (can_reach_answer u s t ≡ Err NoSegment)
      ↔ (IsOk (reach_answer u) × ((s < u.view.segments) × (t < u.view.segments) → ⊥))
