-- Each turn goes one slot back: its ticks are its partition's, and it is the slot that its partition has next.
use mathlib.Core.Path.{◌≡◌}
use lib.ListN.{length}
use Rattle.policy.specs.Limits.{single}
use Rattle.policy.specs.Record.{tables_of}
use Rattle.policy.specs.Tables.{view_of}
use Rattle.sheet.proofs.Laws.Walk.{Added}
use Rattle.sheet.proofs.own.round_of.Given as goal

abbrev pub invariant-loop-slot : goal.invariant-loop-slot
invariant-loop-slot l =
    record {
      own_long : length l.own ≡ single.partitions;
      ahead_long : length l.ahead ≡ single.partitions;
      added : Added (view_of (tables_of l.policy)) l.slot l.far l.own l.ahead;
    }
