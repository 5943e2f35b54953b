-- In the record of zeros no segment, partition or slot stands.
use mathlib.Core.Path.{ap}
use native.Mathlib.Omega.{arith}
use Rattle.policy.specs.Tables.{Tables}
use Rattle.linerules.proofs.Laws.Ends.{ended_none}
use Rattle.linerules.proofs.Laws.Saves.{saves_none}
use Rattle.linerules.proofs.draft.Draft.new.Goals as goal

pub invariant_of-result : goal.invariant_of-result
invariant_of-result c =
    let e = c.zeros.ensures in
    record {
      few_segments = omega (arith, ap (λ (t : Tables). t.segments.count) e);
      saves_barred = saves_none _ e;
      segments_ended = ended_none _ e;
    }
