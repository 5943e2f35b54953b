-- The view of a record of which only what these rules ask is known: the counts, the partitions' segments, the masks.
use Rattle.std.specs.Prelude.{ℕ, List, []}
use Rattle.policy.specs.Tables.{view_of}
use Rattle.policy.specs.View.{View}
use Rattle.wholerules.specs.declared.parts.Parts.{Parts}

abbrev pub parts_of : ℕ → ℕ → ℕ → List ℕ → List ℕ → List ℕ → List ℕ → List ℕ → View
parts_of segments partitions slots code save reads writes sources =
    view_of
    (record {
      segments = record { count = segments; base = []; size = [] };
      partitions = record { count = partitions; code = code; save = save };
      slots = record { count = slots; owner = []; ticks = [] };
      rights = record { reads = reads; writes = writes };
      flows = record { sources = sources };
      unused = 0;
    })

abbrev pub view_of_parts : Parts → View
view_of_parts p =
    parts_of p.segments p.partitions p.slots p.code.now p.save.now p.reads.now p.writes.now p.sources.now
