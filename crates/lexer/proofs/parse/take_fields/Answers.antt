-- The fields of each kind, by whether each is read: the line is what all of them say, and bad from the first that is not.
use Rattle.std.proofs.Common.{refl}
use Rattle.text.specs.Lines.{segment_line, partition_line, right_line, flow_line, slot_line}
use Rattle.text.specs.Number.{number, letters}
use Rattle.text.specs.declared.line.Line.TheVariants.{Segment, Partition, Right, Flow, Slot}
use Rattle.text.proofs.Laws.Line.{first_none, two_none, two_read, second_none, three_none, three_read}
use Rattle.lexer.proofs.parse.take_fields.Goals as goal

pub returns-in_err-id-in-Segment : goal.returns-in_err-id-in-Segment
unfolding segment_line
returns-in_err-id-in-Segment c = rw (c.from_residual.ensures, c.in-Segment.is) (first_none _ _ _ (λ n. refl) c.read_inner.ensures c.in_err-id-in-Segment.was)

pub returns-in_err-base-in-Segment : goal.returns-in_err-base-in-Segment
unfolding segment_line
returns-in_err-base-in-Segment c = rw (c.from_residual-in_err-base-in-Segment.ensures, c.in-Segment.is) (second_none _ _ number Segment c.read_inner.ensures c.in_ok-id-in-Segment.was c.read_inner-in-Segment.ensures c.in_err-base-in-Segment.was)

pub returns-in_err-size-in-Segment : goal.returns-in_err-size-in-Segment
unfolding segment_line
returns-in_err-size-in-Segment c = rw (c.from_residual-in_err-size-in-Segment.ensures, c.in-Segment.is) (three_none _ _ number Segment c.read_inner.ensures c.in_ok-id-in-Segment.was c.read_inner-in-Segment.ensures c.in_ok-base-in-Segment.was c.read_last.ensures c.in_err-size-in-Segment.was)

pub returns-in_ok-size-in-Segment : goal.returns-in_ok-size-in-Segment
unfolding segment_line
returns-in_ok-size-in-Segment c = rw c.in-Segment.is (three_read _ _ number Segment c.read_inner.ensures c.in_ok-id-in-Segment.was c.read_inner-in-Segment.ensures c.in_ok-base-in-Segment.was c.read_last.ensures c.in_ok-size-in-Segment.was)

pub returns-in_err-id-in-Partition : goal.returns-in_err-id-in-Partition
unfolding partition_line
returns-in_err-id-in-Partition c = rw (c.from_residual-in_err-id-in-Partition.ensures, c.in-Partition.is) (first_none _ _ _ (λ n. refl) c.read_inner-in-Partition.ensures c.in_err-id-in-Partition.was)

pub returns-in_err-code-in-Partition : goal.returns-in_err-code-in-Partition
unfolding partition_line
returns-in_err-code-in-Partition c = rw (c.from_residual-in_err-code-in-Partition.ensures, c.in-Partition.is) (second_none _ _ number Partition c.read_inner-in-Partition.ensures c.in_ok-id-in-Partition.was c.read_inner-in-Partition-2.ensures c.in_err-code-in-Partition.was)

pub returns-in_err-save-in-Partition : goal.returns-in_err-save-in-Partition
unfolding partition_line
returns-in_err-save-in-Partition c = rw (c.from_residual-in_err-save-in-Partition.ensures, c.in-Partition.is) (three_none _ _ number Partition c.read_inner-in-Partition.ensures c.in_ok-id-in-Partition.was c.read_inner-in-Partition-2.ensures c.in_ok-code-in-Partition.was c.read_last-in-Partition.ensures c.in_err-save-in-Partition.was)

pub returns-in_ok-save-in-Partition : goal.returns-in_ok-save-in-Partition
unfolding partition_line
returns-in_ok-save-in-Partition c = rw c.in-Partition.is (three_read _ _ number Partition c.read_inner-in-Partition.ensures c.in_ok-id-in-Partition.was c.read_inner-in-Partition-2.ensures c.in_ok-code-in-Partition.was c.read_last-in-Partition.ensures c.in_ok-save-in-Partition.was)

pub returns-in_err-partition-in-Right : goal.returns-in_err-partition-in-Right
unfolding right_line
returns-in_err-partition-in-Right c = rw (c.from_residual-in_err-partition-in-Right.ensures, c.in-Right.is) (first_none _ _ _ (λ n. refl) c.read_inner-in-Right.ensures c.in_err-partition-in-Right.was)

pub returns-in_err-segment-in-Right : goal.returns-in_err-segment-in-Right
unfolding right_line
returns-in_err-segment-in-Right c = rw (c.from_residual-in_err-segment-in-Right.ensures, c.in-Right.is) (second_none _ _ letters Right c.read_inner-in-Right.ensures c.in_ok-partition-in-Right.was c.read_inner-in-Right-2.ensures c.in_err-segment-in-Right.was)

pub returns-in_err-mode-in-Right : goal.returns-in_err-mode-in-Right
unfolding right_line
returns-in_err-mode-in-Right c = rw (c.from_residual-in_err-mode-in-Right.ensures, c.in-Right.is) (three_none _ _ letters Right c.read_inner-in-Right.ensures c.in_ok-partition-in-Right.was c.read_inner-in-Right-2.ensures c.in_ok-segment-in-Right.was c.read_letters.ensures c.in_err-mode-in-Right.was)

pub returns-in_ok-mode-in-Right : goal.returns-in_ok-mode-in-Right
unfolding right_line
returns-in_ok-mode-in-Right c = rw c.in-Right.is (three_read _ _ letters Right c.read_inner-in-Right.ensures c.in_ok-partition-in-Right.was c.read_inner-in-Right-2.ensures c.in_ok-segment-in-Right.was c.read_letters.ensures c.in_ok-mode-in-Right.was)

pub returns-in_err-from-in-Flow : goal.returns-in_err-from-in-Flow
unfolding flow_line
returns-in_err-from-in-Flow c = rw (c.from_residual-in_err-from-in-Flow.ensures, c.in-Flow.is) (first_none _ _ _ (λ n. refl) c.read_inner-in-Flow.ensures c.in_err-from-in-Flow.was)

pub returns-in_err-to-in-Flow : goal.returns-in_err-to-in-Flow
unfolding flow_line
returns-in_err-to-in-Flow c = rw (c.from_residual-in_err-to-in-Flow.ensures, c.in-Flow.is) (two_none _ _ number Flow c.read_inner-in-Flow.ensures c.in_ok-from-in-Flow.was c.read_last-in-Flow.ensures c.in_err-to-in-Flow.was)

pub returns-in_ok-to-in-Flow : goal.returns-in_ok-to-in-Flow
unfolding flow_line
returns-in_ok-to-in-Flow c = rw c.in-Flow.is (two_read _ _ number Flow c.read_inner-in-Flow.ensures c.in_ok-from-in-Flow.was c.read_last-in-Flow.ensures c.in_ok-to-in-Flow.was)

pub returns-in_err-partition-in-Slot : goal.returns-in_err-partition-in-Slot
unfolding slot_line
returns-in_err-partition-in-Slot c = rw (c.from_residual-in_err-partition-in-Slot.ensures, c.in-Slot.is) (first_none _ _ _ (λ n. refl) c.read_inner-in-Slot.ensures c.in_err-partition-in-Slot.was)

pub returns-in_err-ticks-in-Slot : goal.returns-in_err-ticks-in-Slot
unfolding slot_line
returns-in_err-ticks-in-Slot c = rw (c.from_residual-in_err-ticks-in-Slot.ensures, c.in-Slot.is) (two_none _ _ number Slot c.read_inner-in-Slot.ensures c.in_ok-partition-in-Slot.was c.read_last-in-Slot.ensures c.in_err-ticks-in-Slot.was)

pub returns-in_ok-ticks-in-Slot : goal.returns-in_ok-ticks-in-Slot
unfolding slot_line
returns-in_ok-ticks-in-Slot c = rw c.in-Slot.is (two_read _ _ number Slot c.read_inner-in-Slot.ensures c.in_ok-partition-in-Slot.was c.read_last-in-Slot.ensures c.in_ok-ticks-in-Slot.was)
