-- The definitions compute, so each case is its own proof.
use lib.Count.{count_trailing_zeros}
use lib.Dec.{T}
use Rattle.text.specs.Bytes.{same}
use Rattle.text.specs.Cut.{cut}
use Rattle.text.specs.Lines.{segment_line, partition_line, right_line, flow_line, slot_line, word_of, line_by, lines_of_pieces, lines_by}
use Rattle.text.specs.Number.{all_digits, is_number, value_from, decimal, begins_hex, hexadecimal, number, letters}
use Rattle.policy.specs.Below.{some_below, each_below}
use Rattle.policy.specs.Clash.{clashes}
use Rattle.policy.specs.Draft.{added}
use Rattle.policy.specs.Order.{out_of_order}
use Rattle.policy.specs.Range.{out_of_range}
use Rattle.policy.specs.Read.{line_refusal, whole_refusal, read_lines_by, read_by}
use Rattle.policy.specs.Sound.{good_segment, good_partition, good_slot, good_right, good_flow, all_zero, is_shaped, counts_fit, unused_zero, all_under, masks_fit, lines_hold, sound_of}
use Rattle.policy.specs.Whole.{incomplete, code_unreadable, flow_missing, stray_flow}
use Rattle.octets.specs.Numbers.{half, word, with_half, with_word}
use Rattle.machine.specs.Bytes.{little, digits}
use Rattle.machine.specs.Decode.{operand_fits, operands_fit, instruction_of, decode_of, fetched}
use Rattle.machine.specs.Faults.{faults}
use Rattle.machine.specs.Local.{advanced, resulted, jumps, waits, comes_back, acts_on, takes_interrupt, entered, interrupted, is_ready}
use Rattle.machine.specs.Machine.{next}
use Rattle.machine.specs.Place.{is_place, next_slot, next_used}
use Rattle.machine.specs.Tick.{reaches, in_segment, looks, loads, stores_bytes, executes, obeys, steps, effect, tick_of}
use Rattle.calls.specs.Run.{run_outcome, after_ticks, after_run, run_answer}
use Rattle.calls.specs.Start.{start_outcome, cleared, after_start, start_answer}
use Rattle.cases.specs.Cases.{all_hold, cases, holds}

pub claim : T (all_hold cases)
unfolding holds same cut segment_line partition_line right_line flow_line slot_line word_of line_by lines_of_pieces lines_by all_digits is_number value_from decimal begins_hex hexadecimal number letters some_below each_below clashes added out_of_order out_of_range line_refusal whole_refusal read_lines_by read_by good_segment good_partition good_slot good_right good_flow all_zero is_shaped counts_fit unused_zero all_under masks_fit lines_hold sound_of incomplete code_unreadable flow_missing stray_flow half word with_half with_word operand_fits operands_fit instruction_of decode_of fetched faults advanced resulted jumps waits comes_back acts_on takes_interrupt entered interrupted is_ready next is_place next_slot next_used reaches in_segment little digits looks loads stores_bytes executes obeys steps effect tick_of run_outcome after_ticks after_run run_answer start_outcome cleared after_start start_answer count_trailing_zeros
claim = tt
