-- The bit of its save segment is set.
use native.Mathlib.Omega.{arith}
use borrow.Author.Rules.{rules}
use Rattle.linerules.proofs.Laws.Saves.{saves_stored}
use Rattle.linerules.proofs.draft.Draft.add_partition.Goals as goal

pub invariant_of-self : goal.invariant_of-self
invariant_of-self c =
    let d = c.args.self.now in
    record {
      few_segments = d.few_segments;
      saves_barred =
          rw c.with_low_bit-self.ensures
          (saves_stored d.policy.save c.args.id c.args.save d.barred (search rules) c.requires.has_place (rw c.requires.next d.saves_barred));
      segments_ended = d.segments_ended;
    }
