-- A line that rule 4 lets pass ends in memory, and names a segment.
use mathlib.Core.Path.{sym, ◌∙◌}
use Rattle.linerules.proofs.Laws.Fits.{range_ends, range_names}
use Rattle.linerules.proofs.draft.Draft.check.Goals as goal

pub clashes-requires : goal.clashes-requires
clashes-requires c =
    let ranged = sym c.out_of_range.ensures ∙ c.if-out_of_range.false in
    record { ends_in_memory = range_ends _ _ ranged; names_a_segment = range_names _ _ ranged c.args.self.now.few_segments }
