-- How long the rows are, by the widths of their numbers.
use Prim.Native.Nat.{ℕ, zero, suc, ◌*◌, ◌<◌, ◌≤◌}
use mathlib.Core.Bool.{Bool}
use native.Mathlib.Omega.{arith}
use mathlib.Core.List.{[], ◌∷◌, ◌++◌}
use lib.ListN.{length, length-append}
use lib.Pow.{pow_mono}
use Rattle.bits.specs.Masks.{mask_of}
use Rattle.bits.proofs.Laws.Masks.{mask_under}
use Rattle.text.specs.Bytes.{bytes_of}
use Rattle.std.specs.Prelude.{Ok, Err}
use Rattle.policy.specs.declared.record.Refusal.TheVariants.{TooLong, Malformed, OutOfOrder, OutOfRange, Clash, Incomplete, CodeUnreadable, FlowMissing, StraySource}
use Rattle.policy.specs.View.{View}
use Rattle.policy.specs.Access.{readable, writable}
use Rattle.policy.specs.Schedule.{round_ticks}
use Rattle.policy.specs.Refusals.{Verdict, number_of}
use Rattle.policy.proofs.Laws.Sums.{sum_most}
use Rattle.report.specs.Report.{accepted_row, read_mask, write_mask, segment_row, segment_rows, accepted_report, refused_with}
use Rattle.report.specs.Reportable.{Countable}
use Rattle.writing.specs.Row.{numbers}
use Rattle.writing.proofs.Laws.Digits.{digits_width}

-- A mask of at most 8 partitions has at most three digits.
pub mask_small : (test : ℕ → Bool) (n : ℕ) → n ≤ 8 → mask_of n test < 256
mask_small test n h = omega (arith, mask_under test n, pow_mono {i = n} {j = 8} h)

pub round_small : (v : View) → Countable v → round_ticks v < 100000
round_small v r = omega (arith, sum_most v.ticks v.slots r.ticks_most)

pub accepted_length : (v : View) → Countable v → length (accepted_row v) ≤ 23
unfolding accepted_row
accepted_length v r =
    simp length-append
    (omega (
      arith,
      digits_width 0 v.partitions (omega arith),
      digits_width 1 v.segments (omega arith),
      digits_width 1 v.slots (omega arith),
      digits_width 4 (round_ticks v) (round_small v r),
    ))

pub segment_length : (s reads writes : ℕ) → s < 100 → reads < 256 → writes < 256 →
    length (bytes_of "segment" ++ numbers (s ∷ reads ∷ writes ∷ [])) ≤ 19
segment_length s reads writes a b d =
    simp length-append
    (omega (arith, digits_width 1 s a, digits_width 2 reads (omega arith), digits_width 2 writes (omega arith)))

pub segments_length : (v : View) → v.partitions ≤ 8 → (n : ℕ) → n ≤ 100 → length (segment_rows v n) ≤ 19 * n
unfolding segment_rows segment_row
segments_length v few zero h = omega arith
segments_length v few (suc n) h =
    rw length-append
    (omega (
      arith,
      segments_length v few n (omega arith),
      segment_length n (read_mask v n) (write_mask v n) h (mask_small (λ p. readable v p n) v.partitions few)
          (mask_small (λ p. writable v p n) v.partitions few),
    ))

-- An accepted text's report fits its buffer.
pub accepted_fits : (v : View) → Countable v → length (accepted_report v) ≤ 640
accepted_fits v k =
    rw length-append
    (omega (arith, accepted_length v k, k.few_segments, segments_length v k.few_partitions v.segments (omega (arith, k.few_segments))))

pub refused_length : (number line : ℕ) → number < 100 → line < 100000 → length (refused_with number line) ≤ 17
refused_length number line a b = simp length-append (omega (arith, digits_width 1 number a, digits_width 4 line b))

pub number_small : (v : Verdict) → number_of v < 100
number_small (Ok accepted) = omega arith
number_small (Err TooLong) = omega arith
number_small (Err (Malformed line)) = omega arith
number_small (Err (OutOfOrder line)) = omega arith
number_small (Err (OutOfRange line)) = omega arith
number_small (Err (Clash line)) = omega arith
number_small (Err Incomplete) = omega arith
number_small (Err CodeUnreadable) = omega arith
number_small (Err FlowMissing) = omega arith
number_small (Err StraySource) = omega arith
