-- Each turn clears one save segment more, as the definition does.
use Rattle.std.proofs.Common.{◌≡◌, ◌+◌, ◌≤◌, length, refl, ap, ◌∙◌, add-one, arith}
use native.Mathlib.Nat.{add-sub_cancel_left}
use borrow.Rule.Slice.PartMut.{mid_len}
use Rattle.policy.specs.Tables.{view_of}
use Rattle.policy.specs.Record.{tables_of}
use Rattle.calls.specs.Start.{cleared}
use Rattle.kernel.proofs.clear.clear_saves.Goals as goal

pub loop-partition-init : goal.loop-partition-init
unfolding cleared
loop-partition-init c = refl

pub loop-partition-preserved : goal.loop-partition-preserved
unfolding cleared
loop-partition-preserved c =
    let from = c.save_from-from.result in
    let room : from + 44 ≤ length c.loop-partition.memory = omega arith in
    rw (
      c.fill.ensures.after (λ y e. e),
      mid_len from (from + 44) c.loop-partition.memory room,
      add-sub_cancel_left,
      c.save_from-from.ensures.base,
      add-one,
      c.loop-partition.invariant,
    )

pub returns : goal.returns
returns c =
    let all : c.loop-partition.partition ≡ c.args.policy.now.partitions = omega arith in
    c.loop-partition.invariant ∙ ap (λ n. cleared (view_of (tables_of c.args.policy.now)) n c.args.memory.now) all
