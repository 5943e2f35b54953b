-- The code makes the definition's tests in another order.
use mathlib.Core.Bool.{and-true}
use Rattle.policy.proofs.Entries.{fit_of, shaped_of}
use Rattle.policy.specs.Clash.{clashes}
use Rattle.policy.specs.Limits.{single}
use Rattle.policy.specs.Range.{out_of_range}
use Rattle.policy.specs.Record.{tables_of}
use Rattle.policy.specs.Sound.{good_right}
use Rattle.validate.proofs.Laws.Held.{held_told}
use Rattle.validate.proofs.Laws.Rights.{count_told}
use Rattle.validate.proofs.counted.Counted.entries_hold.Goals as goal

pub returns : goal.returns
unfolding good_right out_of_range clashes
returns c =
    let self = c.args.self.now in
    let p = self.policy.now in
    rw (
      c.flows_good.ensures,
      c.rights_good.ensures,
      c.partitions_good.ensures,
      c.segments_good.ensures,
      c.partitions_unused.ensures,
      c.tables_hold.ensures,
      shaped_of single (tables_of p) self.lengths,
      fit_of single (tables_of p) self.fit,
      and-true,
    )
    (held_told (tables_of p)
    (count_told p.segments p.partitions p.save p.reads p.writes self.counts.segments self.counts.partitions self.fit.reads self.fit.writes self.lengths.reads
    self.lengths.writes))
