-- Which answers of reading a text the report has room for: those within the limits.
use Rattle.std.specs.Prelude.{ℕ, ◌≤◌, ◌<◌}
use Rattle.policy.specs.Limits.{single, most_ticks}
use Rattle.policy.specs.View.{View}
use Rattle.policy.specs.Tables.{view_of}
use Rattle.policy.specs.Refusals.{line_number_of}
use Rattle.policy.specs.Read.{Answer}

-- The counts and the ticks of a policy that the first line tells.
pub record Countable (v : View) : Type 0 where
  pub few_segments : v.segments ≤ single.segments
  pub few_partitions : v.partitions ≤ single.partitions
  pub few_slots : v.slots ≤ single.slots
  pub ticks_most : (i : ℕ) → i < v.slots → v.ticks i ≤ most_ticks

pub record Reportable (a : Answer) : Type 0 where
  pub counts : Countable (view_of a.tables)
  pub line_short : line_number_of a.refusal < 100000
