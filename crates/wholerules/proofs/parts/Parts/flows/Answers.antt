-- After all targets what has been found is rule 8's answer.
use mathlib.Core.Path.{◌∙◌}
use Rattle.policy.specs.ByTarget.{found_after}
use Rattle.policy.proofs.ByTarget.{found_all}
use Rattle.wholerules.specs.Parts.{view_of_parts}
use Rattle.wholerules.proofs.parts.Parts.flows.Goals as goal

pub returns-clause-missing : goal.returns-clause-missing
returns-clause-missing c =
    let v = view_of_parts c.args.self.now in
    ◌∙◌ {b = found_after v c.args.self.now.segments} c.missing_after.ensures.missing (found_all v)
