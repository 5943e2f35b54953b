-- 01, "Memory and policy": "A record is sound if some accepted text gives it."
use Rattle.std.specs.Prelude.{◌≡◌, Bool, true}
use Rattle.policy.specs.Limits.{single}
use Rattle.policy.specs.Tables.{Tables}
use Rattle.policy.specs.Sound.{Sound}

-- The answer is true just where some accepted text gives the record.
pub record Decides (tables : Tables) (answer : Bool) : Type 0 where
  pub given : answer ≡ true → Sound single tables
  pub told : Sound single tables → answer ≡ true
