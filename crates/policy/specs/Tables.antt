-- The policy record as the definitions know it: in parts, as numbers and lists, for a head of any limits. A line of a text
-- adds to one part. Each head's own record is one value of this (Record.antt).
use Rattle.std.specs.Prelude.{ℕ, List, get_or, replicate}
use Rattle.bits.specs.Masks.{has}
use Rattle.policy.specs.Limits.{Limits}
use Rattle.policy.specs.View.{View}

-- "the numbers of segments, partitions and slots; each segment's base and length; each partition's code and save segment; each
-- slot's partition and ticks"
pub record Segments : Type 0 where
  pub count : ℕ
  pub base : List ℕ
  pub size : List ℕ

pub record Partitions : Type 0 where
  pub count : ℕ
  pub code : List ℕ
  pub save : List ℕ

pub record Slots : Type 0 where
  pub count : ℕ
  pub owner : List ℕ
  pub ticks : List ℕ

-- 02, S-6: "Keep the right lines of a partition as two 32-bit masks, one for read and one for write": of each partition
pub record Rights : Type 0 where
  pub reads : List ℕ
  pub writes : List ℕ

-- "and the sources of a segment as one 32-bit mask, bit s for segment s": of each segment t, bit s for a line "flow s t"
pub record Flows : Type 0 where
  pub sources : List ℕ

pub record Tables : Type 0 where
  pub segments : Segments
  pub partitions : Partitions
  pub slots : Slots
  pub rights : Rights
  pub flows : Flows
  -- the byte after the counts, which no line sets
  pub unused : ℕ

-- "the record of zeros"
abbrev pub zeros : Limits → Tables
zeros limits =
    record {
      segments = record { count = 0; base = replicate limits.segments 0; size = replicate limits.segments 0 };
      partitions = record { count = 0; code = replicate limits.partitions 0; save = replicate limits.partitions 0 };
      slots = record { count = 0; owner = replicate limits.slots 0; ticks = replicate limits.slots 0 };
      rights = record { reads = replicate limits.partitions 0; writes = replicate limits.partitions 0 };
      flows = record { sources = replicate limits.segments 0 };
      unused = 0;
    }

abbrev pub view_of : Tables → View
view_of t =
    record {
      segments = t.segments.count;
      partitions = t.partitions.count;
      slots = t.slots.count;
      base = λ s. get_or t.segments.base s 0;
      size = λ s. get_or t.segments.size s 0;
      code = λ p. get_or t.partitions.code p 0;
      save = λ p. get_or t.partitions.save p 0;
      owner = λ i. get_or t.slots.owner i 0;
      ticks = λ i. get_or t.slots.ticks i 0;
      reads = λ p s. has (get_or t.rights.reads p 0) s;
      writes = λ p s. has (get_or t.rights.writes p 0) s;
      flow = λ s u. has (get_or t.flows.sources u 0) s;
    }
