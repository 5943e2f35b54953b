-- A widened mask is the same number.
use mathlib.Core.Path.{◌∙◌}
use Rattle.policy.specs.Record.{tables_of}
use Rattle.wholerules.proofs.Laws.Parts.{parts_refusal}
use Rattle.wholerules.proofs.rules.record_refusal.Goals as goal

pub returns : goal.returns
returns c =
    record {
      refusal =
          rw (c.widened-reads.ensures.same, c.widened-writes.ensures.same, c.widened-sources.ensures.same) at c.lent_refusal.ensures
          ∙ parts_refusal (tables_of c.args.policy.now);
      narrow = (c.widened-reads.ensures.narrow, c.widened-writes.ensures.narrow, c.widened-sources.ensures.narrow);
    }
