-- The lines of a record that passes are of the widths that the head's limits allow: rules 4 and 5, read for numbers.
use Prim.Native.Nat.{ℕ, zero, suc, ◌+◌, ◌≤◌, ◌<◌}
use mathlib.Core.Path.{◌≡◌, refl}
use mathlib.Core.Bool.{Bool, true, false, cond, ◌||◌, false≢true}
use mathlib.Core.List.{List, [], ◌∷◌, ◌++◌}
use native.Mathlib.Omega.{arith}
use borrow.Author.Tests.{eqb-false}
use Rattle.text.specs.declared.line.Line.{Line}
use Rattle.text.specs.declared.line.Line.TheVariants.{Bad, Segment, Partition, Right, Flow, Slot}
use Rattle.policy.specs.Limits.{Limits, longest_segment, most_ticks}
use Rattle.policy.specs.Modes.{mode_in}
use Rattle.policy.specs.View.{View}
use Rattle.policy.specs.Clash.{clashes}
use Rattle.policy.specs.Tables.{Tables, view_of}
use Rattle.policy.proofs.Laws.Tests.{passes_clear, segment_least, segment_most, segment_inside, partition_code, partition_save, slot_owner, slot_most}
use Rattle.printer.specs.Printer.{lines_below, segment_at, partition_at, right_at, flow_at, slot_at, segment_lines, partition_lines, right_lines, flow_lines, slot_lines, lines_of_record}
use Rattle.printer.specs.Roomy.{Roomy}
use Rattle.printer.proofs.Laws.Lines.{Printable, All}
use Rattle.printer.proofs.Laws.Passed.{Passed}

-- Within the limits of the head.
abbrev pub Fits : Limits → Line → Type 0
Fits limits Bad = ⊥
Fits limits (Segment id base size) = (id < limits.segments) × (base < limits.memory) × (size ≤ longest_segment)
Fits limits (Partition id code save) = (id < limits.partitions) × (code < limits.segments) × (save < limits.segments)
Fits limits (Right partition segment mode) =
    (partition < limits.partitions) × (segment < limits.segments) × (1 ≤ mode) × (mode ≤ 3)
Fits limits (Flow from to) = (from < limits.segments) × (to < limits.segments) × (from ≡ to → ⊥)
Fits limits (Slot partition ticks) = (partition < limits.partitions) × (ticks ≤ most_ticks)

fits_printable : (limits : Limits) → Roomy limits → (line : Line) → Fits limits line → Printable line
fits_printable limits r Bad h = h
fits_printable limits r (Segment id base size) h = (omega arith, omega arith, omega arith)
fits_printable limits r (Partition id code save) h = (omega arith, omega arith, omega arith)
fits_printable limits r (Right partition segment mode) h = (omega arith, omega arith, h.2, h.3)
fits_printable limits r (Flow from to) h = (omega arith, omega arith)
fits_printable limits r (Slot partition ticks) h = (omega arith, omega arith)

-- A pair that stands has a line, any other has none.
pub pair_cases : (P : List Line → Type 0) (b : Bool) (line : Line) →
    (b ≡ false → P []) → (b ≡ true → P (line ∷ [])) → P (cond b (line ∷ []) [])
pair_cases P true line none one = one refl
pair_cases P false line none one = none refl

-- The letters of a pair that stands.
some_mode : (r w : Bool) → r || w ≡ true → (1 ≤ cond r 1 0 + cond w 2 0) × (cond r 1 0 + cond w 2 0 ≤ 3)
some_mode true true h = (omega arith, omega arith)
some_mode true false h = (omega arith, omega arith)
some_mode false true h = (omega arith, omega arith)
some_mode false false h = absurd (false≢true h)

module _ (limits : Limits) (t : Tables) (h : Passed limits t) where
  abbrev v : View
  v = view_of t

  pub segment_fits : (i : ℕ) → i < v.segments → Fits limits (Segment i (v.base i) (v.size i))
  segment_fits i l =
      let g = h.segment i l in (
        omega (arith, h.few_segments),
        omega (arith, segment_least limits v i g, segment_inside limits v i g),
        segment_most limits v i g,
      )

  pub partition_fits : (i : ℕ) → i < v.partitions → Fits limits (Partition i (v.code i) (v.save i))
  partition_fits i l =
      let g = h.partition i l in (
        omega (arith, h.few_partitions),
        omega (arith, h.few_segments, partition_code limits v i g),
        omega (arith, h.few_segments, partition_save limits v i g),
      )

  pub right_fits : (p s : ℕ) → p < limits.partitions → s < limits.segments → v.reads p s || v.writes p s ≡ true →
      Fits limits (Right p s (mode_in v p s))
  right_fits p s l k e = let m = some_mode (v.reads p s) (v.writes p s) e in (l, k, m.0, m.1)

  pub flow_fits : (s u : ℕ) → s < limits.segments → u < limits.segments → v.flow s u ≡ true → Fits limits (Flow s u)
  unfolding clashes
  flow_fits s u l k e = (l, k, eqb-false s u (passes_clear limits v (Flow s u) (h.flow s u l k e)))

  pub slot_fits : (i : ℕ) → i < v.slots → Fits limits (Slot (v.owner i) (v.ticks i))
  slot_fits i l =
      let g = h.slot i l in (omega (arith, h.few_partitions, slot_owner limits v i g), slot_most limits v i g)

all_append : (P : Line → Type 0) (xs ys : List Line) → All P xs → All P ys → All P (xs ++ ys)
all_append P [] ys h e = e
all_append P (x ∷ xs) ys h e = (h.0, all_append P xs ys h.1 e)

all_below : (P : Line → Type 0) (n : ℕ) (f : ℕ → List Line) → ((i : ℕ) → i < n → All P (f i)) → All P (lines_below n f)
unfolding lines_below
all_below P zero f h = tt
all_below P (suc n) f h =
    all_append P (lines_below n f) (f n) (all_below P n f (λ i l. h i (omega arith))) (h n (omega arith))

all_map : (P Q : Line → Type 0) → ((line : Line) → P line → Q line) → (lines : List Line) → All P lines → All Q lines
all_map P Q f [] h = tt
all_map P Q f (line ∷ lines) h = (f line h.0, all_map P Q f lines h.1)

module _ (limits : Limits) (t : Tables) (h : Passed limits t) where
  record_fits : All (Fits limits) (lines_of_record limits t)
  unfolding lines_of_record
  record_fits =
      let v = view_of t in
      all_append (Fits limits) (segment_lines v ++ partition_lines v ++ right_lines limits v ++ flow_lines limits v) (slot_lines v)
      (all_append (Fits limits) (segment_lines v ++ partition_lines v ++ right_lines limits v) (flow_lines limits v)
      (all_append (Fits limits) (segment_lines v ++ partition_lines v) (right_lines limits v)
      (all_append (Fits limits) (segment_lines v) (partition_lines v)
      (all_below (Fits limits) v.segments (segment_at v) (λ i l. (segment_fits limits t h i l, tt)))
      (all_below (Fits limits) v.partitions (partition_at v) (λ i l. (partition_fits limits t h i l, tt))))
      (all_below (Fits limits) limits.partitions _ (λ p l. all_below (Fits limits) limits.segments (right_at v p)
      (λ s k. pair_cases (All (Fits limits)) _ _ (λ e. tt) (λ e. (right_fits limits t h p s l k e, tt))))))
      (all_below (Fits limits) limits.segments _ (λ s l. all_below (Fits limits) limits.segments (flow_at v s)
      (λ u k. pair_cases (All (Fits limits)) _ _ (λ e. tt) (λ e. (flow_fits limits t h s u l k e, tt))))))
      (all_below (Fits limits) v.slots (slot_at v) (λ i l. (slot_fits limits t h i l, tt)))

  pub record_printable : Roomy limits → All Printable (lines_of_record limits t)
  record_printable r = all_map (Fits limits) Printable (fits_printable limits r) (lines_of_record limits t) record_fits
