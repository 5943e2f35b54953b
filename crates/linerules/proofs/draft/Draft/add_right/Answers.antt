-- A mask is stored with its bit, or as it was, and so the line's rights are added.
use Rattle.linerules.proofs.Laws.Stored.{stored_right}
use Rattle.linerules.proofs.draft.Draft.add_right.Goals as goal

pub returns-clause-tables : goal.returns-clause-tables
returns-clause-tables c =
    stored_right c.args.self.now.policy c.args.partition c.args.segment c.args.mode _ _ c.with_given.ensures c.with_given-2.ensures
