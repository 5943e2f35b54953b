-- 02, S-1: "all segments from which a chain of one or more flow lines leads to it .. A chain may have any length".
use Rattle.std.specs.Prelude.{ℕ, zero, suc, Bool, ◌&&◌, ◌||◌}
use Rattle.policy.specs.View.{View}

-- Whether a chain leads from s to t whose inner segments are all below k. With none it is the line itself; with k among them it leads as
-- before, or through k.
unfoldable pub via : (ℕ → ℕ → Bool) → ℕ → ℕ → ℕ → Bool
via flow zero s t = flow s t
via flow (suc k) s t = via flow k s t || via flow k s k && via flow k k t

-- Whether a chain leads from s to t. Asked of segments of the policy alone.
abbrev pub reaches : View → ℕ → ℕ → Bool
reaches v s t = via v.flow v.segments s t
