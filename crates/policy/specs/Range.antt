-- 01, refusal 4: "more than 32 segments, 8 partitions or 32 slots; a length or tick count out of range; base + length
-- over 16,384; a partition or segment named that isn't there".
use Rattle.std.specs.Prelude.{ℕ, ◌+◌, Bool, false, ◌||◌, leb, ltb}
use Rattle.text.specs.declared.line.Line.{Line}
use Rattle.text.specs.declared.line.Line.TheVariants.{Bad, Segment, Partition, Right, Flow, Slot}
use Rattle.policy.specs.Limits.{Limits, longest_segment, most_ticks}
use Rattle.policy.specs.View.{View}

-- Whether a count would pass its limit by one more.
abbrev pub is_full : ℕ → ℕ → Bool
is_full limit count = leb limit count

abbrev pub no_segment : View → ℕ → Bool
no_segment v s = leb v.segments s

abbrev pub no_partition : View → ℕ → Bool
no_partition v p = leb v.partitions p

abbrev pub outside : ℕ → ℕ → ℕ → Bool
outside least most n = ltb n least || ltb most n

-- Of a segment line: "more than 32 segments", "a length .. out of range", "base + length over 16,384".
abbrev pub segment_outside : Limits → View → ℕ → ℕ → Bool
segment_outside limits v base size =
    is_full limits.segments v.segments || outside 1 longest_segment size || ltb limits.memory (base + size)

-- Of a partition line: "more than .. 8 partitions", "a .. segment named that isn't there".
abbrev pub partition_outside : Limits → View → ℕ → ℕ → Bool
partition_outside limits v code save =
    is_full limits.partitions v.partitions || no_segment v code || no_segment v save

-- Of a right line and of a flow line: "a partition or segment named that isn't there".
abbrev pub right_outside : View → ℕ → ℕ → Bool
right_outside v partition segment = no_partition v partition || no_segment v segment

abbrev pub flow_outside : View → ℕ → ℕ → Bool
flow_outside v from to = no_segment v from || no_segment v to

-- Of a slot line: "more than .. 32 slots", "a partition .. named that isn't there", "a .. tick count out of range".
abbrev pub slot_outside : Limits → View → ℕ → ℕ → Bool
slot_outside limits v partition ticks =
    is_full limits.slots v.slots || no_partition v partition || outside 1 most_ticks ticks

unfoldable pub out_of_range : Limits → View → Line → Bool
out_of_range limits v Bad = false
out_of_range limits v (Segment id base size) = segment_outside limits v base size
out_of_range limits v (Partition id code save) = partition_outside limits v code save
out_of_range limits v (Right partition segment mode) = right_outside v partition segment
out_of_range limits v (Flow from to) = flow_outside v from to
out_of_range limits v (Slot partition ticks) = slot_outside limits v partition ticks
