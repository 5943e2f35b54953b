-- What the operations ask of the record that they are given: the head's limits, what the rules and the machine see of it, and
-- whether it is sound.
use Rattle.std.specs.Prelude.{Bool}
use Rattle.policy.specs.declared.record.Policy.{Policy}
use Rattle.policy.specs.Limits.{Limits, single}
use Rattle.policy.specs.View.{View}
use Rattle.policy.specs.Tables.{Tables, view_of}
use Rattle.policy.specs.Record.{tables_of}
use Rattle.policy.specs.Sound.{sound_of}

pub record Under : Type 0 where
  pub limits : Limits
  pub view : View
  pub sound : Bool

-- Under a record of a head with these limits.
abbrev pub under : Limits → Tables → Under
under limits t = record { limits = limits; view = view_of t; sound = sound_of limits t }

-- Under the single head's record.
abbrev pub under_policy : Policy → Under
under_policy policy = under single (tables_of policy)
