-- What the printer needs of a head: its numbers have at most five digits, and a text may be as long as the longest printed one.
use Rattle.std.specs.Prelude.{◌≤◌}
use Rattle.policy.specs.Limits.{Limits}
use Rattle.printer.specs.Printer.{text_bound}

pub record Roomy (limits : Limits) : Type 0 where
  -- "Numbers have 1 to 5 digits": those below the limits
  pub segments : limits.segments ≤ 100000
  pub partitions : limits.partitions ≤ 100000
  pub memory : limits.memory ≤ 100000
  pub text : text_bound limits ≤ limits.text
