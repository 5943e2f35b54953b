-- The printed text of a record that passes is at most as long as the widest line of each kind, for each place that can have one: no
-- number is wider than the greatest that may stand at its place.
use Prim.Native.Nat.{ℕ, zero, suc, ◌+◌, ◌-◌, ◌*◌, ◌≤◌, ◌<◌, zero-le}
use mathlib.Core.Path.{◌≡◌, refl}
use mathlib.Core.List.{List, [], ◌∷◌, ◌++◌, append_assoc}
use native.Mathlib.Nat.{suc-mul, mul_assoc, mul-le-mul_right, le_trans}
use native.Mathlib.Omega.{arith}
use native.Mathlib.Decide.{dec_lt}
use lib.ListN.{length, length-append}
use Rattle.text.specs.declared.line.Line.{Line}
use Rattle.text.specs.declared.line.Line.TheVariants.{Bad, Segment, Partition, Right, Flow, Slot}
use Rattle.policy.specs.Limits.{Limits, single, longest_segment, most_ticks}
use Rattle.policy.specs.Tables.{Tables, view_of}
use Rattle.policy.specs.View.{View}
use Rattle.printer.specs.Decimal.{digits, digits_before}
use Rattle.printer.specs.Printer.{
  letters_of,
  fields_of_line,
  word_of_line,
  parted,
  text_of_line,
  text_of_lines,
  lines_below,
  segment_at,
  partition_at,
  right_at,
  flow_at,
  slot_at,
  segment_lines,
  partition_lines,
  right_lines,
  flow_lines,
  slot_lines,
  lines_of_record,
  text_of,
  text_bound,
}
use Rattle.printer.specs.Roomy.{Roomy}
use Rattle.printer.proofs.Laws.Decimal.{digits_grow}
use Rattle.printer.proofs.Laws.Passed.{Passed}
use Rattle.printer.proofs.Laws.Lines.{letters-cases}
use Rattle.printer.proofs.Laws.Fits.{Fits, pair_cases, segment_fits, partition_fits, right_fits, flow_fits, slot_fits}

pub bound_single : text_bound single ≡ 15728
unfolding text_bound text_of_line parted word_of_line fields_of_line letters_of digits digits_before
bound_single = refl

pub roomy_single : Roomy single
roomy_single =
    record {
      segments = omega arith;
      partitions = omega arith;
      memory = omega arith;
      text = rw bound_single (omega arith);
    }

-- The widest line of each kind.
abbrev widest_line : Limits → Line → Line
widest_line limits Bad = Bad
widest_line limits (Segment id base size) = Segment (limits.segments - 1) (limits.memory - 1) longest_segment
widest_line limits (Partition id code save) =
    Partition (limits.partitions - 1) (limits.segments - 1) (limits.segments - 1)
widest_line limits (Right partition segment mode) = Right (limits.partitions - 1) (limits.segments - 1) 3
widest_line limits (Flow from to) = Flow (limits.segments - 1) (limits.segments - 1)
widest_line limits (Slot partition ticks) = Slot (limits.partitions - 1) most_ticks

abbrev widest : Limits → Line → ℕ
widest limits line = length (text_of_line (widest_line limits line))

letters_width : (mode : ℕ) → 1 ≤ mode → mode ≤ 3 → length (letters_of mode) ≤ length (letters_of 3)
unfolding letters_of
letters_width = letters-cases (λ mode. length (letters_of mode) ≤ length (letters_of 3)) (omega arith) (omega arith) (omega arith)

below_width : (n limit : ℕ) → n < limit → length (digits n) ≤ length (digits (limit - 1))
below_width n limit h = digits_grow n (limit - 1) (omega arith)

line_width : (limits : Limits) (line : Line) → Fits limits line → length (text_of_line line) ≤ widest limits line
unfolding text_of_line parted word_of_line fields_of_line
line_width limits Bad h = absurd h
line_width limits (Segment id base size) h =
    simp length-append
    (omega (
      arith,
      below_width id limits.segments h.0,
      below_width base limits.memory h.1,
      digits_grow size longest_segment h.2,
    ))
line_width limits (Partition id code save) h =
    simp length-append
    (omega (
      arith,
      below_width id limits.partitions h.0,
      below_width code limits.segments h.1,
      below_width save limits.segments h.2,
    ))
line_width limits (Right partition segment mode) h =
    simp length-append
    (omega (
      arith,
      below_width partition limits.partitions h.0,
      below_width segment limits.segments h.1,
      letters_width mode h.2 h.3,
    ))
line_width limits (Flow from to) h =
    simp length-append
    (omega (arith, below_width from limits.segments h.0, below_width to limits.segments h.1))
line_width limits (Slot partition ticks) h =
    simp length-append
    (omega (arith, below_width partition limits.partitions h.0, digits_grow ticks most_ticks h.1))

text_append : (xs ys : List Line) → text_of_lines (xs ++ ys) ≡ text_of_lines xs ++ text_of_lines ys
unfolding text_of_lines
text_append [] ys = refl
text_append (x ∷ xs) ys = rw (text_append xs ys, append_assoc)

-- The bytes of the lines.
abbrev bytes : List Line → ℕ
bytes lines = length (text_of_lines lines)

bytes-append : (xs ys : List Line) → bytes (xs ++ ys) ≡ bytes xs + bytes ys
bytes-append xs ys = rw (text_append xs ys, length-append)

bytes_one : (limits : Limits) (line : Line) → Fits limits line → bytes (line ∷ []) ≤ widest limits line
unfolding text_of_lines
bytes_one limits line h = simp length-append (omega (arith, line_width limits line h))

-- As many lines of one width; and one less, where one place has none.
module _ (w : ℕ) (f : ℕ → List Line) where
  bytes_each : (n : ℕ) → ((i : ℕ) → i < n → bytes (f i) ≤ w) → bytes (lines_below n f) ≤ n * w
  unfolding lines_below text_of_lines
  bytes_each zero h = zero-le
  bytes_each (suc n) h =
      rw (bytes-append (lines_below n f) (f n), suc-mul n w)
      (omega (arith, h n (omega arith), bytes_each n (λ i l. h i (omega arith))))

  bytes_others : (n k : ℕ) → k < n → bytes (f k) ≡ 0 → ((i : ℕ) → i < n → bytes (f i) ≤ w) →
      bytes (lines_below n f) + w ≤ n * w
  unfolding lines_below
  bytes_others zero k l e h = absurd (omega arith)
  bytes_others (suc n) k l e h =
      rw (bytes-append (lines_below n f) (f n), suc-mul n w)
      (go (dec_lt k n) (λ m. bytes_others n k m e (λ i l. h i (omega arith))))
    where
      go : Dec (k < n) → (k < n → bytes (lines_below n f) + w ≤ n * w) → bytes (lines_below n f) + bytes (f n) + w ≤ n * w + w
      go (yes m) before = omega (arith, before m, h n (omega arith))
      go (no m) before =
          let q : n ≡ k = omega arith in
          let none : bytes (f n) ≡ 0 = rw q e in
          omega (arith, bytes_each n (λ i l. h i (omega arith)))

  -- Up to as many as the limit allows.
  bytes_upto : (n limit : ℕ) → n ≤ limit → ((i : ℕ) → i < n → bytes (f i) ≤ w) → bytes (lines_below n f) ≤ limit * w
  bytes_upto n limit l h = le_trans (bytes_each n h) (mul-le-mul_right w l)

less_one : (n w k : ℕ) → 0 < n → k + w ≤ n * w → k ≤ (n - 1) * w
less_one zero w k l h = absurd (omega arith)
less_one (suc n) w k l h = let q : suc n - 1 ≡ n = omega arith in rw q (omega (arith, suc-mul n w))

module _ (limits : Limits) (t : Tables) (h : Passed limits t) where
  abbrev v : View
  v = view_of t

  segment_bytes : bytes (segment_lines v) ≤ limits.segments * widest limits (Segment 0 0 0)
  segment_bytes =
      bytes_upto _ (segment_at v) v.segments limits.segments h.few_segments
      (λ i l. bytes_one limits _ (segment_fits limits t h i l))

  partition_bytes : bytes (partition_lines v) ≤ limits.partitions * widest limits (Partition 0 0 0)
  partition_bytes =
      bytes_upto _ (partition_at v) v.partitions limits.partitions h.few_partitions
      (λ i l. bytes_one limits _ (partition_fits limits t h i l))

  right_bytes : bytes (right_lines limits v) ≤ limits.partitions * limits.segments * widest limits (Right 0 0 0)
  unfolding text_of_lines
  right_bytes =
      rw (mul_assoc limits.partitions limits.segments (widest limits (Right 0 0 0)))
      (bytes_each _ _ limits.partitions
      (λ p l. bytes_each _ (right_at v p) limits.segments
      (λ s k. pair_cases (λ ls. bytes ls ≤ widest limits (Right 0 0 0)) _ _ (λ e. zero-le)
      (λ e. bytes_one limits _ (right_fits limits t h p s l k e)))))

  -- A flow line goes from a segment to another: none at the place of its source.
  flow_bytes : bytes (flow_lines limits v) ≤ limits.segments * (limits.segments - 1) * widest limits (Flow 0 0)
  unfolding text_of_lines
  flow_bytes =
      let w = widest limits (Flow 0 0) in
      rw (mul_assoc limits.segments (limits.segments - 1) w)
      (bytes_each _ _ limits.segments
      (λ s l. less_one limits.segments w _ (omega arith)
      (bytes_others w (flow_at v s) limits.segments s l
      (pair_cases (λ ls. bytes ls ≡ 0) _ _ (λ e. refl) (λ e. absurd ((flow_fits limits t h s s l l e).2 refl)))
      (λ u k. pair_cases (λ ls. bytes ls ≤ w) _ _ (λ e. zero-le)
      (λ e. bytes_one limits _ (flow_fits limits t h s u l k e))))))

  slot_bytes : bytes (slot_lines v) ≤ limits.slots * widest limits (Slot 0 0)
  slot_bytes =
      bytes_upto _ (slot_at v) v.slots limits.slots h.few_slots (λ i l. bytes_one limits _ (slot_fits limits t h i l))

  pub text_short : length (text_of limits t) ≤ text_bound limits
  unfolding text_of lines_of_record text_bound
  text_short =
      rw (
        bytes-append (segment_lines v ++ partition_lines v ++ right_lines limits v ++ flow_lines limits v) (slot_lines v),
        bytes-append (segment_lines v ++ partition_lines v ++ right_lines limits v) (flow_lines limits v),
        bytes-append (segment_lines v ++ partition_lines v) (right_lines limits v),
        bytes-append (segment_lines v) (partition_lines v),
      )
      (omega (arith, segment_bytes, partition_bytes, right_bytes, flow_bytes, slot_bytes))
