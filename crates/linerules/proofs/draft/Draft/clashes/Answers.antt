-- A segment past the earlier ones overlaps none, and the mask answers for the save segments.
use mathlib.Core.Path.{sym, ◌∙◌}
use native.Mathlib.Omega.{arith}
use Rattle.policy.specs.Record.{tables_of}
use Rattle.policy.specs.Clash.{clashes}
use Rattle.linerules.proofs.Laws.Ends.{none_past}
use Rattle.linerules.proofs.draft.Draft.clashes.Goals as goal

pub overlaps_earlier-requires : goal.overlaps_earlier-requires
overlaps_earlier-requires c =
    record { few = c.args.self.now.few_segments; ends = omega (arith, rw c.in-Segment.is at c.requires.ends_in_memory) }

pub has_bit-requires : goal.has_bit-requires
has_bit-requires c =
    omega (arith, rw c.in-Right.is at c.requires.names_a_segment)

pub returns-then-self-base : goal.returns-then-self-base
unfolding clashes
returns-then-self-base c =
    let d = c.args.self.now in
    rw c.in-Segment.is
    (sym (none_past (tables_of d.policy) d.policy.segments d.ended _ _ d.segments_ended c.if-self-base.true))

pub returns-in-Right : goal.returns-in-Right
unfolding clashes
returns-in-Right c =
    rw c.in-Right.is
    (c.has_bit.ensures ∙ c.args.self.now.saves_barred _)
