-- What the first loop hands to the second.
use Rattle.std.specs.Prelude.{ℕ, ◌-◌}
use Rattle.policy.specs.View.{View}
use Rattle.policy.specs.Schedule.{round_ticks, gap_from}

-- Where p's first slot begins, in ticks before the end of the round; 0 if it has none.
abbrev pub first_begin : View → ℕ → ℕ
first_begin v p = round_ticks v - gap_from v p v.slots 0
