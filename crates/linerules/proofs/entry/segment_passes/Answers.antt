-- A segment past the earlier ones overlaps none.
use mathlib.Core.Path.{sym, ◌∙◌}
use Rattle.policy.specs.Record.{tables_of}
use Rattle.policy.specs.Range.{out_of_range}
use Rattle.policy.specs.Clash.{clashes}
use Rattle.policy.specs.Sound.{good_segment}
use Rattle.linerules.proofs.Laws.Ends.{none_past}
use Rattle.linerules.proofs.entry.segment_passes.Goals as goal

pub returns-then-end-base : goal.returns-then-end-base
unfolding good_segment out_of_range clashes
returns-then-end-base c =
    let start = c in
    let a = start.args in
    rw (
      ← c.entry_or-base.ensures,
      ← c.entry_or-size.ensures,
      sym c.segment_outside.ensures ∙ c.if-segment_outside.false,
      none_past (tables_of a.policy.now) a.i a.end _ _ start.requires c.if-end-base.true,
    )
