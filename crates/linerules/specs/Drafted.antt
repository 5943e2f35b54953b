-- The draft of the definitions that the code's draft stands for.
use Rattle.policy.specs.Draft.{Draft}
use Rattle.policy.specs.Record.{tables_of}
use Rattle.policy.specs.Tables.{view_of}
use Rattle.policy.specs.View.{View}
use Rattle.linerules.specs.declared.draft.Draft.{Draft as Drafted}

abbrev pub draft_of : Drafted → Draft
draft_of d = record { tables = tables_of d.policy; before = d.before }

abbrev pub view_in : Drafted → View
view_in d = view_of (tables_of d.policy)
