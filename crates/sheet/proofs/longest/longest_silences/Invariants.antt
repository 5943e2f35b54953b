-- Each turn goes one slot back: behind it its partition was silent until the slot that it has next, and it is that slot for those before.
use mathlib.Core.Path.{◌≡◌}
use lib.ListN.{length}
use Rattle.policy.specs.Limits.{single}
use Rattle.policy.specs.Record.{tables_of}
use Rattle.policy.specs.Tables.{view_of}
use Rattle.sheet.proofs.Laws.Longest.{Walked}
use Rattle.sheet.proofs.longest.longest_silences.Given as goal

abbrev pub invariant-loop-slot : goal.invariant-loop-slot
invariant-loop-slot l =
    record {
      longest_long : length l.longest ≡ single.partitions;
      ahead_long : length l.ahead ≡ single.partitions;
      walked : Walked (view_of (tables_of l.policy)) l.slot l.far l.ahead l.longest;
    }
