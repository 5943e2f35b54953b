-- The rules for the whole ask nothing of a record but the parts that are lent.
use mathlib.Core.Path.{◌≡◌, refl}
use Rattle.policy.specs.Read.{whole_refusal}
use Rattle.policy.specs.Tables.{Tables, view_of}
use Rattle.policy.specs.Whole.{incomplete, code_unreadable, flow_missing, stray_flow}
use Rattle.wholerules.specs.Parts.{parts_of}

pub parts_refusal : (t : Tables) →
    whole_refusal
    (parts_of t.segments.count t.partitions.count t.slots.count t.partitions.code t.partitions.save
    t.rights.reads t.rights.writes t.flows.sources)
    ≡ whole_refusal (view_of t)
unfolding whole_refusal incomplete code_unreadable flow_missing stray_flow
parts_refusal t = refl
