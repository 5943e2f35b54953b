-- Reading the lines of a record that passes, kind by kind, gives the record: each line is accepted at its stage and leads to the next.
use Prim.Native.Nat.{ℕ, suc}
use mathlib.Core.Path.{◌≡◌, refl, sym, ◌∙◌, ap}
use mathlib.Core.List.{[], ◌++◌, append-nil}
use native.Mathlib.Omega.{arith}
use Rattle.policy.specs.Limits.{Limits}
use Rattle.policy.specs.View.{View}
use Rattle.policy.specs.Tables.{Tables, zeros, view_of}
use Rattle.policy.specs.Draft.{begun, no_line}
use Rattle.policy.specs.Read.{whole_refusal, read_lines, read_lines_by}
use Rattle.policy.specs.declared.record.Key.{Key}
use Rattle.std.specs.Prelude.{Ok}
use Rattle.policy.proofs.Laws.First.{is_accepted_lem}
use Rattle.printer.specs.Printer.{segment_at, partition_at, right_at, flow_at, slot_at, segment_lines, partition_lines, right_lines, flow_lines, slot_lines, lines_of_record}
use Rattle.printer.proofs.Laws.Passed.{Passed}
use Rattle.printer.proofs.Laws.Fits.{pair_cases}
use Rattle.printer.proofs.Laws.Reaches.{draft, Reaches, reaches_none, reaches_one, reaches_append, reaches_below}
use Rattle.printer.proofs.Laws.Order.{Upto, Below, below_first, below_later, below_row, below_own, segment_ordered, partition_ordered, right_ordered, flow_ordered, slot_ordered}
use Rattle.printer.proofs.Laws.Stage.{
  at_segment,
  segments_in,
  at_partition,
  partitions_in,
  at_right,
  rights_in,
  at_flow,
  flows_in,
  at_slot,
  segments_none,
  segments_all,
  add_segment,
  segment_passes,
  partitions_none,
  partitions_all,
  add_partition,
  partition_passes,
  rights_none,
  rights_row,
  rights_all,
  add_right,
  keep_right,
  right_passes,
  flows_none,
  flows_row,
  flows_all,
  add_flow,
  keep_flow,
  flow_passes,
  slots_none,
  slots_all,
  add_slot,
  slot_passes,
}

module _ (limits : Limits) (t : Tables) (h : Passed limits t) where
  abbrev v : View
  v = view_of t

  segments_read : Reaches limits (zeros limits) (Upto 0) (segment_lines v) (segments_in limits t) (Upto 0)
  segments_read =
      reaches_below limits _ _ _ _ (at_segment limits t) (λ i. Upto 0) (segment_at v) v.segments
      (segments_none limits t h) (λ key c. c)
      (λ i l.
      reaches_one limits _ _ _ _ _ refl
      (λ key c. segment_ordered key (view_of (at_segment limits t i)) _ _ c)
      (segment_passes limits t h i l) (add_segment limits t h i l) (omega arith))
      (segments_all limits t h) (λ key c. c)

  partitions_read : Reaches limits (segments_in limits t) (Upto 0) (partition_lines v) (partitions_in limits t) (Upto 1)
  partitions_read =
      reaches_below limits _ _ _ _ (at_partition limits t) (λ i. Upto 1) (partition_at v) v.partitions
      (partitions_none limits t h) (λ key c. omega arith)
      (λ i l.
      reaches_one limits _ _ _ _ _ refl
      (λ key c. partition_ordered key (view_of (at_partition limits t i)) _ _ c)
      (partition_passes limits t h i l) (add_partition limits t h i l) (omega arith))
      (partitions_all limits t h) (λ key c. c)

  rights_read : Reaches limits (partitions_in limits t) (Upto 1) (right_lines limits v) (rights_in limits t) (Upto 2)
  rights_read =
      reaches_below limits _ _ _ _ (λ p. at_right limits t p 0) (λ p. Below 2 p 0) _ limits.partitions
      (rights_none limits t h) (below_first 1)
      (λ p l.
      reaches_below limits _ _ _ _ (at_right limits t p) (Below 2 p) (right_at v p) limits.segments
      refl (λ key c. c)
      (λ s k.
      pair_cases (λ xs. Reaches limits (at_right limits t p s) (Below 2 p s) xs (at_right limits t p (suc s)) (Below 2 p (suc s))) _ _
      (λ e. reaches_none limits _ _ _ _ (keep_right limits t h p s l e) (below_later 2 p s))
      (λ e.
      reaches_one limits _ _ _ _ _ refl
      (λ key c. right_ordered key (view_of (at_right limits t p s)) p s _ c)
      (right_passes limits t h p s l k e) (add_right limits t h p s l) (below_own 2 p s)))
      (rights_row limits t h p) (below_row 2 p limits.segments))
      (rights_all limits t h) (λ key c. c.kinds)

  flows_read : Reaches limits (rights_in limits t) (Upto 2) (flow_lines limits v) (flows_in limits t) (Upto 3)
  flows_read =
      reaches_below limits _ _ _ _ (λ s. at_flow limits t s 0) (λ s. Below 3 s 0) _ limits.segments
      (flows_none limits t h) (below_first 2)
      (λ s l.
      reaches_below limits _ _ _ _ (at_flow limits t s) (Below 3 s) (flow_at v s) limits.segments
      refl (λ key c. c)
      (λ u k.
      pair_cases (λ xs. Reaches limits (at_flow limits t s u) (Below 3 s u) xs (at_flow limits t s (suc u)) (Below 3 s (suc u))) _ _
      (λ e. reaches_none limits _ _ _ _ (keep_flow limits t h s u k e) (below_later 3 s u))
      (λ e.
      reaches_one limits _ _ _ _ _ refl
      (λ key c. flow_ordered key (view_of (at_flow limits t s u)) s u c)
      (flow_passes limits t h s u l k e) (add_flow limits t h s u k e) (below_own 3 s u)))
      (flows_row limits t h s) (below_row 3 s limits.segments))
      (flows_all limits t h) (λ key c. c.kinds)

  slots_read : Reaches limits (flows_in limits t) (Upto 3) (slot_lines v) t (Upto 4)
  slots_read =
      reaches_below limits _ _ _ _ (at_slot limits t) (λ i. Upto 4) (slot_at v) v.slots
      (slots_none limits t h) (λ key c. omega arith)
      (λ i l.
      reaches_one limits _ _ _ _ _ refl
      (λ key c. slot_ordered key (view_of (at_slot limits t i)) _ _ c)
      (slot_passes limits t h i l) (add_slot limits t h i l) (omega arith))
      (slots_all limits t h) (λ key c. c)

  record_read : Reaches limits (zeros limits) (Upto 0) (lines_of_record limits t) t (Upto 4)
  unfolding lines_of_record
  record_read =
      reaches_append limits _ (flows_in limits t) _ _ (Upto 3) _
      (segment_lines v ++ partition_lines v ++ right_lines limits v ++ flow_lines limits v) (slot_lines v)
      (reaches_append limits _ (rights_in limits t) _ _ (Upto 2) _
      (segment_lines v ++ partition_lines v ++ right_lines limits v) (flow_lines limits v)
      (reaches_append limits _ (partitions_in limits t) _ _ (Upto 1) _
      (segment_lines v ++ partition_lines v) (right_lines limits v)
      (reaches_append limits _ (segments_in limits t) _ _ (Upto 0) _ (segment_lines v) (partition_lines v)
      segments_read partitions_read)
      rights_read)
      flows_read)
      slots_read

  -- After the last line the record is whole, and passes the rules for the whole.
  end_read : (n : ℕ) (key : Key) → read_lines limits n (draft t key) [] ≡ record { refusal = Ok tt; tables = t }
  unfolding read_lines_by
  end_read n key = rw (is_accepted_lem (whole_refusal v) h.whole)

  pub lines_read : read_lines limits 1 (begun limits) (lines_of_record limits t) ≡ record { refusal = Ok tt; tables = t }
  lines_read =
      ap (read_lines limits 1 (begun limits)) (sym (append-nil (lines_of_record limits t)))
      ∙ record_read [] _ (λ n key c. end_read n key) 1 no_line (omega arith)
