-- 01, "Memory and policy": the record as it was before 02's S-6, with a byte for each pair. It stands here for the comparison
-- with the masks alone: no code has it.
use Rattle.std.specs.Prelude.{ℕ, ◌+◌, ◌*◌, ◌≤◌, ◌≡◌, ◌&&◌, cond, List, [], ◌∷◌, eqb, ltb, length, get_or, set, replicate, Ok, Err}
use Rattle.bits.specs.Masks.{AllUnder}
use Rattle.text.specs.Lines.{lines_of}
use Rattle.text.specs.declared.line.Line.{Line}
use Rattle.text.specs.declared.line.Line.TheVariants.{Bad, Segment, Partition, Right, Flow, Slot}
use Rattle.policy.specs.declared.record.Key.{Key}
use Rattle.policy.specs.declared.record.Refusal.TheVariants.{TooLong}
use Rattle.policy.specs.Limits.{single}
use Rattle.policy.specs.Modes.{gives_read, gives_write}
use Rattle.policy.specs.Order.{key_of}
use Rattle.policy.specs.Refusals.{Verdict, is_accepted}
use Rattle.policy.specs.View.{View}
use Rattle.policy.specs.Tables.{Segments, Partitions, Slots, Tables, zeros, view_of}
use Rattle.policy.specs.Draft.{with_segment, with_partition, with_slot, no_line}
use Rattle.policy.specs.Read.{too_long, line_refusal, whole_refusal}

pub record Bytes : Type 0 where
  pub segments : Segments
  pub partitions : Partitions
  pub slots : Slots
  -- "one byte for each pair of partition and segment (0 none, 1 r, 2 w, 3 rw)"
  pub rights : List ℕ
  -- "and one byte (0 or 1) for each ordered pair of segments (from, to)"
  pub flows : List ℕ

-- A row of 32 bytes for each partition, or for each segment that a line goes from.
abbrev pub pair_at : ℕ → ℕ → ℕ
pair_at a b = 32 * a + b

-- A byte stands for a pair of a segment below 32.
abbrev pub view_of_bytes : Bytes → View
view_of_bytes b =
    record {
      segments = b.segments.count;
      partitions = b.partitions.count;
      slots = b.slots.count;
      base = λ s. get_or b.segments.base s 0;
      size = λ s. get_or b.segments.size s 0;
      code = λ p. get_or b.partitions.code p 0;
      save = λ p. get_or b.partitions.save p 0;
      owner = λ i. get_or b.slots.owner i 0;
      ticks = λ i. get_or b.slots.ticks i 0;
      reads = λ p s. ltb s 32 && gives_read (get_or b.rights (pair_at p s) 0);
      writes = λ p s. ltb s 32 && gives_write (get_or b.rights (pair_at p s) 0);
      flow = λ s u. ltb u 32 && eqb (get_or b.flows (pair_at s u) 0) 1;
    }

-- "the record of zeros"
abbrev pub zero_bytes : Bytes
zero_bytes =
    let z = zeros single in
    record {
      segments = z.segments;
      partitions = z.partitions;
      slots = z.slots;
      rights = replicate 256 0;
      flows = replicate 1024 0;
    }

-- What a line adds: to the segments, partitions and slots as ever; a right line its byte; a flow line a 1.
unfoldable pub added_bytes : Bytes → Line → Bytes
added_bytes b Bad = b
added_bytes b (Segment id base size) =
    record {
      segments = with_segment b.segments id base size;
      partitions = b.partitions;
      slots = b.slots;
      rights = b.rights;
      flows = b.flows;
    }
added_bytes b (Partition id code save) =
    record {
      segments = b.segments;
      partitions = with_partition b.partitions id code save;
      slots = b.slots;
      rights = b.rights;
      flows = b.flows;
    }
added_bytes b (Right partition segment mode) =
    record {
      segments = b.segments;
      partitions = b.partitions;
      slots = b.slots;
      rights = set b.rights (pair_at partition segment) mode;
      flows = b.flows;
    }
added_bytes b (Flow from to) =
    record {
      segments = b.segments;
      partitions = b.partitions;
      slots = b.slots;
      rights = b.rights;
      flows = set b.flows (pair_at from to) 1;
    }
added_bytes b (Slot partition ticks) =
    record {
      segments = b.segments;
      partitions = b.partitions;
      slots = with_slot b.slots partition ticks;
      rights = b.rights;
      flows = b.flows;
    }

-- Reading a text into it, by the rules of Read.antt.
pub record BytesAnswer : Type 0 where
  pub refusal : Verdict
  pub bytes : Bytes

abbrev pub answer_bytes : Verdict → Bytes → BytesAnswer
answer_bytes refusal b = record { refusal = refusal; bytes = cond (is_accepted refusal) b zero_bytes }

unfoldable pub read_bytes_from : ℕ → Key → Bytes → List Line → BytesAnswer
read_bytes_from n before b [] = answer_bytes (whole_refusal (view_of_bytes b)) b
read_bytes_from n before b (line ∷ lines) =
    let refusal = line_refusal single n before (view_of_bytes b) line in
    let rest = read_bytes_from (n + 1) (key_of line) (added_bytes b line) lines in
    cond (is_accepted refusal) rest (answer_bytes refusal zero_bytes)

unfoldable pub read_bytes : List ℕ → BytesAnswer
read_bytes text =
    let rest = read_bytes_from 1 no_line zero_bytes (lines_of text) in
    cond (too_long single text) (answer_bytes (Err TooLong) zero_bytes) rest

-- "A record is sound if some accepted text gives it."
pub record SoundBytes (b : Bytes) : Type 0 where
  pub text : List ℕ
  pub gives : read_bytes text ≡ record { refusal = Ok tt; bytes = b }

-- A table of bytes has its length and the values that 01 gives its bytes.
pub record AreBytes (b : Bytes) : Type 0 where
  pub rights_long : length b.rights ≡ 256
  pub flows_long : length b.flows ≡ 1024
  pub rights_low : (k : ℕ) → get_or b.rights k 0 ≤ 3
  pub flows_low : (k : ℕ) → get_or b.flows k 0 ≤ 1

-- Tables of masks have the lengths and the widths of the single head's arrays; every value of its record has them.
pub record AreMasks (t : Tables) : Type 0 where
  pub reads_long : length t.rights.reads ≡ single.partitions
  pub writes_long : length t.rights.writes ≡ single.partitions
  pub sources_long : length t.flows.sources ≡ single.segments
  pub reads_under : AllUnder single.segments t.rights.reads
  pub writes_under : AllUnder single.segments t.rights.writes
  pub sources_under : AllUnder single.segments t.flows.sources

-- 02, S-6: "old and new records .. stand for the same rights and flows": the same counts, segments, partitions and slots, and
-- for each pair the same rights and the same flow lines.
pub record StandsFor (b : Bytes) (t : Tables) : Type 0 where
  pub segments : b.segments ≡ t.segments
  pub partitions : b.partitions ≡ t.partitions
  pub slots : b.slots ≡ t.slots
  pub reads : (p s : ℕ) → (view_of_bytes b).reads p s ≡ (view_of t).reads p s
  pub writes : (p s : ℕ) → (view_of_bytes b).writes p s ≡ (view_of t).writes p s
  pub flow : (s u : ℕ) → (view_of_bytes b).flow s u ≡ (view_of t).flow s u
  pub unused : t.unused ≡ 0
