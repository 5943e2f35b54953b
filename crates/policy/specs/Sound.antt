-- 01, "Memory and policy": "A record is sound if some accepted text gives it."
use Rattle.std.specs.Prelude.{ℕ, ◌^◌, ◌≡◌, Bool, true, ◌&&◌, ◌||◌, not, List, [], ◌∷◌, length, drop, eqb, leb, ltb, Ok}
use Rattle.text.specs.declared.line.Line.{Line}
use Rattle.text.specs.declared.line.Line.TheVariants.{Segment, Partition, Right, Flow, Slot}
use Rattle.policy.specs.Below.{each_below}
use Rattle.policy.specs.Limits.{Limits}
use Rattle.policy.specs.Modes.{mode_in}
use Rattle.policy.specs.View.{View}
use Rattle.policy.specs.Range.{out_of_range}
use Rattle.policy.specs.Clash.{clashes}
use Rattle.policy.specs.Tables.{Tables, view_of}
use Rattle.policy.specs.Refusals.{is_accepted}
use Rattle.policy.specs.Read.{read_of, whole_refusal}

-- "some accepted text gives it"
pub record Sound (limits : Limits) (tables : Tables) : Type 0 where
  pub text : List ℕ
  pub gives : read_of limits text ≡ record { refusal = Ok tt; tables = tables }

-- The test that decides it: each entry stands where a line that rules 4 and 5 let pass, after those before it, would
-- put it, the unused entries are 0, and the whole passes 6, 7, 8 and 16. That the two are the same is proved: `accepted`
-- here, and `printed` in the crate printer.

-- The policy with other counts.
abbrev pub with_counts : View → ℕ → ℕ → ℕ → View
with_counts v segments partitions slots =
    record {
      segments = segments;
      partitions = partitions;
      slots = slots;
      base = v.base;
      size = v.size;
      code = v.code;
      save = v.save;
      owner = v.owner;
      ticks = v.ticks;
      reads = v.reads;
      writes = v.writes;
      flow = v.flow;
    }

-- The policy as its first segments, partitions or slots alone would have it.
abbrev pub first_segments : View → ℕ → View
first_segments v n = with_counts v n v.partitions v.slots

abbrev pub first_partitions : View → ℕ → View
first_partitions v n = with_counts v v.segments n v.slots

abbrev pub first_slots : View → ℕ → View
first_slots v n = with_counts v v.segments v.partitions n

abbrev pub passes : Limits → View → Line → Bool
passes limits v line = not (out_of_range limits v line) && not (clashes v line)

unfoldable pub good_segment : Limits → View → ℕ → Bool
good_segment limits v i = passes limits (first_segments v i) (Segment i (v.base i) (v.size i))

unfoldable pub good_partition : Limits → View → ℕ → Bool
good_partition limits v i = passes limits (first_partitions v i) (Partition i (v.code i) (v.save i))

unfoldable pub good_slot : Limits → View → ℕ → Bool
good_slot limits v i = passes limits (first_slots v i) (Slot (v.owner i) (v.ticks i))

-- A pair on which a line gives a right is one that a right line could name; and so of a flow line.
unfoldable pub good_right : Limits → View → ℕ → ℕ → Bool
good_right limits v p s = not (v.reads p s || v.writes p s) || passes limits v (Right p s (mode_in v p s))

unfoldable pub good_flow : Limits → View → ℕ → ℕ → Bool
good_flow limits v s t = not (v.flow s t) || passes limits v (Flow s t)

-- 02, S-6: "10 for a stray bit". The pairs go up to the limits: a bit past the last segment, or of a partition or segment
-- that isn't there, is a pair that no line gives.
unfoldable pub lines_hold : Limits → View → Bool
lines_hold limits v =
    each_below v.segments (good_segment limits v)
    && each_below v.partitions (good_partition limits v)
    && each_below limits.partitions (λ p. each_below limits.segments (λ s. good_right limits v p s))
    && each_below limits.segments (λ s. each_below limits.segments (λ t. good_flow limits v s t))
    && each_below v.slots (good_slot limits v)

-- The lists have the lengths of the head's arrays.
unfoldable pub is_shaped : Limits → Tables → Bool
is_shaped limits t =
    eqb (length t.segments.base) limits.segments
    && eqb (length t.segments.size) limits.segments
    && eqb (length t.partitions.code) limits.partitions
    && eqb (length t.partitions.save) limits.partitions
    && eqb (length t.slots.owner) limits.slots
    && eqb (length t.slots.ticks) limits.slots
    && eqb (length t.rights.reads) limits.partitions
    && eqb (length t.rights.writes) limits.partitions
    && eqb (length t.flows.sources) limits.segments

unfoldable pub counts_fit : Limits → View → Bool
counts_fit limits v =
    leb v.segments limits.segments && leb v.partitions limits.partitions && leb v.slots limits.slots

-- "Unused entries are 0."
unfoldable pub all_zero : List ℕ → Bool
all_zero [] = true
all_zero (n ∷ ns) = eqb n 0 && all_zero ns

unfoldable pub unused_zero : Tables → Bool
unused_zero t =
    all_zero (drop t.segments.count t.segments.base)
    && all_zero (drop t.segments.count t.segments.size)
    && all_zero (drop t.partitions.count t.partitions.code)
    && all_zero (drop t.partitions.count t.partitions.save)
    && all_zero (drop t.slots.count t.slots.owner)
    && all_zero (drop t.slots.count t.slots.ticks)
    && eqb t.unused 0

-- Each mask has as many bits as the head has segments.
unfoldable pub all_under : ℕ → List ℕ → Bool
all_under bound [] = true
all_under bound (n ∷ ns) = ltb n bound && all_under bound ns

unfoldable pub masks_fit : Limits → Tables → Bool
masks_fit limits t =
    all_under (2 ^ limits.segments) t.rights.reads
    && all_under (2 ^ limits.segments) t.rights.writes
    && all_under (2 ^ limits.segments) t.flows.sources

unfoldable pub sound_of : Limits → Tables → Bool
sound_of limits t =
    is_shaped limits t
    && counts_fit limits (view_of t)
    && unused_zero t
    && masks_fit limits t
    && lines_hold limits (view_of t)
    && is_accepted (whole_refusal (view_of t))
