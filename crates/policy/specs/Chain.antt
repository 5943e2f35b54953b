-- 01, "Separation over whole runs": "A chain from s to t is one or more flow lines: the first goes out from s, each
-- further one from the segment that the line before went into, and the last goes into t."
use Rattle.std.specs.Prelude.{ℕ, ◌<◌, ◌≡◌, true}
use Rattle.policy.specs.View.{View}

-- A line "flow s t" between two segments of the policy.
pub record FlowLine (v : View) (s t : ℕ) : Type 0 where
  pub from : s < v.segments
  pub to : t < v.segments
  pub stands : v.flow s t ≡ true

pub data Chain (v : View) : ℕ → ℕ → Type 0 where
  one : {s t : ℕ} → FlowLine v s t → Chain v s t
  more : {s u t : ℕ} → FlowLine v s u → Chain v u t → Chain v s t
