-- A line that fits the record has its place there.
use Rattle.linerules.proofs.Laws.Fits.{segment_fits, partition_fits, right_fits, flow_fits, slot_fits}
use Rattle.linerules.proofs.draft.Draft.add.Goals as goal

pub add_segment-requires-clause-has_place : goal.add_segment-requires-clause-has_place
add_segment-requires-clause-has_place c = (segment_fits _ _ _ _ (rw c.in-Segment.is at c.requires)).0

pub add_segment-requires-clause-fits : goal.add_segment-requires-clause-fits
add_segment-requires-clause-fits c =
    let f = segment_fits _ _ _ _ (rw c.in-Segment.is at c.requires) in
    (f.1, f.2)

pub add_partition-requires-clause-has_place : goal.add_partition-requires-clause-has_place
add_partition-requires-clause-has_place c = (partition_fits _ _ _ _ (rw c.in-Partition.is at c.requires)).0

pub add_partition-requires-clause-fits : goal.add_partition-requires-clause-fits
add_partition-requires-clause-fits c =
    let f = partition_fits _ _ _ _ (rw c.in-Partition.is at c.requires) in
    (f.1, f.2)

pub add_right-requires : goal.add_right-requires
add_right-requires c = record { has_place = right_fits _ _ _ _ (rw c.in-Right.is at c.requires) }

pub add_flow-requires : goal.add_flow-requires
add_flow-requires c = record { has_place = flow_fits _ _ _ (rw c.in-Flow.is at c.requires) }

pub add_slot-requires-clause-has_place : goal.add_slot-requires-clause-has_place
add_slot-requires-clause-has_place c = (slot_fits _ _ _ (rw c.in-Slot.is at c.requires)).0

pub add_slot-requires-clause-fits : goal.add_slot-requires-clause-fits
add_slot-requires-clause-fits c =
    let f = slot_fits _ _ _ (rw c.in-Slot.is at c.requires) in
    (f.1, f.2)
