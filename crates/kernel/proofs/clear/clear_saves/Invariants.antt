-- Each turn clears one save segment more, as the definition does.
use Rattle.std.proofs.Common.{◌≡◌}
use Rattle.policy.specs.Tables.{view_of}
use Rattle.policy.specs.Record.{tables_of}
use Rattle.calls.specs.Start.{cleared}
use Rattle.kernel.proofs.clear.clear_saves.Given as goal

abbrev pub invariant-loop-partition : goal.invariant-loop-partition
invariant-loop-partition l = l.memory ≡ cleared (view_of (tables_of l.policy)) l.partition l.initial.memory
