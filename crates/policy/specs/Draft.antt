-- What a line that no rule refuses adds to the record: to one part of it.
use Rattle.std.specs.Prelude.{ℕ, ◌+◌, cond, List, get_or, set}
use Rattle.bits.specs.Masks.{with_bit}
use Rattle.text.specs.declared.line.Line.{Line}
use Rattle.text.specs.declared.line.Line.TheVariants.{Bad, Segment, Partition, Right, Flow, Slot}
use Rattle.policy.specs.declared.record.Key.{Key}
use Rattle.policy.specs.Limits.{Limits}
use Rattle.policy.specs.Modes.{gives_read, gives_write}
use Rattle.policy.specs.Order.{key_of}
use Rattle.policy.specs.Tables.{Segments, Partitions, Slots, Rights, Flows, Tables, zeros}

abbrev pub with_segment : Segments → ℕ → ℕ → ℕ → Segments
with_segment a id base size = record { count = id + 1; base = set a.base id base; size = set a.size id size }

abbrev pub with_partition : Partitions → ℕ → ℕ → ℕ → Partitions
with_partition a id code save = record { count = id + 1; code = set a.code id code; save = set a.save id save }

-- "Slots stand in schedule order."
abbrev pub with_slot : Slots → ℕ → ℕ → Slots
with_slot a partition ticks =
    record {
      count = a.count + 1;
      owner = set a.owner a.count partition;
      ticks = set a.ticks a.count ticks;
    }

-- Bit s of the k-th mask set.
abbrev pub with_bit_at : List ℕ → ℕ → ℕ → List ℕ
with_bit_at masks k s = set masks k (with_bit (get_or masks k 0) s)

-- A bit for r, a bit for w, or both.
abbrev pub with_right : Rights → ℕ → ℕ → ℕ → Rights
with_right a partition segment mode =
    record {
      reads = cond (gives_read mode) (with_bit_at a.reads partition segment) a.reads;
      writes = cond (gives_write mode) (with_bit_at a.writes partition segment) a.writes;
    }

abbrev pub with_flow : Flows → ℕ → ℕ → Flows
with_flow a from to = record { sources = with_bit_at a.sources to from }

-- The record with one part anew.
abbrev pub with_segments : Tables → Segments → Tables
with_segments t a =
    record {
      segments = a;
      partitions = t.partitions;
      slots = t.slots;
      rights = t.rights;
      flows = t.flows;
      unused = t.unused;
    }

abbrev pub with_partitions : Tables → Partitions → Tables
with_partitions t a =
    record {
      segments = t.segments;
      partitions = a;
      slots = t.slots;
      rights = t.rights;
      flows = t.flows;
      unused = t.unused;
    }

abbrev pub with_rights : Tables → Rights → Tables
with_rights t a =
    record {
      segments = t.segments;
      partitions = t.partitions;
      slots = t.slots;
      rights = a;
      flows = t.flows;
      unused = t.unused;
    }

abbrev pub with_flows : Tables → Flows → Tables
with_flows t a =
    record {
      segments = t.segments;
      partitions = t.partitions;
      slots = t.slots;
      rights = t.rights;
      flows = a;
      unused = t.unused;
    }

abbrev pub with_slots : Tables → Slots → Tables
with_slots t a =
    record {
      segments = t.segments;
      partitions = t.partitions;
      slots = a;
      rights = t.rights;
      flows = t.flows;
      unused = t.unused;
    }

unfoldable pub added : Tables → Line → Tables
added t Bad = t
added t (Segment id base size) = with_segments t (with_segment t.segments id base size)
added t (Partition id code save) = with_partitions t (with_partition t.partitions id code save)
added t (Right partition segment mode) = with_rights t (with_right t.rights partition segment mode)
added t (Flow from to) = with_flows t (with_flow t.flows from to)
added t (Slot partition ticks) = with_slots t (with_slot t.slots partition ticks)

-- The record that the lines read so far have made, and the key of the last of them.
pub record Draft : Type 0 where
  pub tables : Tables
  pub before : Key

-- Before the first line no kind stands before segment.
abbrev pub no_line : Key
no_line = record { kind = 0; first = 0; second = 0 }

abbrev pub begun : Limits → Draft
begun limits = record { tables = zeros limits; before = no_line }

abbrev pub after : Draft → Line → Draft
after d line = record { tables = added d.tables line; before = key_of line }
