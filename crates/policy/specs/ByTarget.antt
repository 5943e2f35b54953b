-- 02, S-3: "However it is done now, let the check go through the target segments first, ascending, and the partitions
-- inside that. No answer changes. Show that after each target a line has been found missing exactly if one that rule 8
-- asks for into that target or an earlier one is missing."
use Rattle.std.specs.Prelude.{ℕ, zero, suc, ◌<◌, ◌≡◌, Bool, true, false, ◌||◌}
use Rattle.policy.specs.Below.{some_below}
use Rattle.policy.specs.View.{View}
use Rattle.policy.specs.Access.{readable, writable}
use Rattle.policy.specs.Whole.{flow_lacks}

-- A line that rule 8 asks for into t and that is missing: t is in W(p) and s in R(p) for a partition p, s is another
-- segment than t, and no line "flow s t" stands.
pub record MissingInto (v : View) (t : ℕ) : Type 0 where
  pub p : ℕ
  pub s : ℕ
  pub partition_there : p < v.partitions
  pub target_there : t < v.segments
  pub source_there : s < v.segments
  pub written : writable v p t ≡ true
  pub read : readable v p s ≡ true
  pub another : s ≡ t → ⊥
  pub missing : v.flow s t ≡ false

-- Such a line into one of the first n targets. After the target t these are the first t + 1: "that target or an
-- earlier one".
pub record MissingAmong (v : View) (n : ℕ) : Type 0 where
  pub target : ℕ
  pub among : target < n
  pub line : MissingInto v target

-- The test of one target: "the partitions inside that", ascending, and of each partition the sources.
abbrev pub partition_lacks : View → ℕ → ℕ → Bool
partition_lacks v t p = some_below v.segments (λ s. flow_lacks v p t s)

abbrev pub target_lacks : View → ℕ → Bool
target_lacks v t = some_below v.partitions (λ p. partition_lacks v t p)

-- Whether a line has been found missing after the first n targets, ascending: none before the first; after the target t
-- what was found before it, or that a line into t is missing.
unfoldable pub found_after : View → ℕ → Bool
found_after v zero = false
found_after v (suc t) = found_after v t || target_lacks v t
