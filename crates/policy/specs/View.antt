-- What the rules and the machine ask of a policy, whatever the layout of its record.
use Rattle.std.specs.Prelude.{ℕ, Bool}

pub record View : Type 0 where
  pub segments : ℕ
  pub partitions : ℕ
  pub slots : ℕ
  -- of a segment
  pub base : ℕ → ℕ
  pub size : ℕ → ℕ
  -- of a partition
  pub code : ℕ → ℕ
  pub save : ℕ → ℕ
  -- of a slot
  pub owner : ℕ → ℕ
  pub ticks : ℕ → ℕ
  -- whether a right line gives a partition r, or w, on a segment
  pub reads : ℕ → ℕ → Bool
  pub writes : ℕ → ℕ → Bool
  -- whether a line "flow s t" stands
  pub flow : ℕ → ℕ → Bool
