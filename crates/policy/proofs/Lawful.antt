-- A record that passes the test has the laws of rules 4 to 8 and 16: each law is what one conjunct of the test says, taken of the later of two
-- segments or partitions, which was tested against the earlier.
use Prim.Native.Nat.{ℕ, ◌+◌, ◌≤◌, ◌<◌}
use mathlib.Core.Path.{◌≡◌, refl, sym, ◌∙◌, ap}
use mathlib.Core.Bool.{true, false, ◌||◌}
use mathlib.Core.Logic.{◌⊎◌, inl, inr, ⊎_elim}
use native.Mathlib.Omega.{arith}
use native.Mathlib.Decide.{dec_lt}
use borrow.Author.Tests.{eq-eqb}
use Rattle.policy.specs.Limits.{Limits}
use Rattle.policy.specs.View.{View}
use Rattle.policy.specs.Access.{writable}
use Rattle.policy.specs.Chain.{FlowLine}
use Rattle.policy.specs.Tables.{Tables, view_of}
use Rattle.policy.specs.Refusals.{is_accepted}
use Rattle.policy.specs.Read.{whole_refusal}
use Rattle.policy.specs.Sound.{sound_of}
use Rattle.policy.specs.Lawful.{Lawful}
use Rattle.policy.specs.Dia.{SaveDia}
use Rattle.policy.proofs.Laws.Bools.{or_left, or_right}
use Rattle.policy.proofs.Laws.Tests.{parts, segment_least, segment_most, segment_inside, segment_apart, partition_code, partition_save, partition_size, partition_parts, partition_own, partition_later, partition_earlier, slot_owner, slot_least, slot_most, right_on_save, flow_goes}
use Rattle.policy.proofs.Laws.Whole.{whole_segments, whole_partitions, whole_slots, whole_reads, whole_flows, whole_sources}
use Rattle.policy.proofs.Entries.{Counts, Good, counts, good}

module _ (limits : Limits) (v : View) (c : Counts limits v) (g : Good limits v) where
  disjoint : (s t : ℕ) → s < v.segments → t < v.segments → (s ≡ t → ⊥) →
      (v.base s + v.size s ≤ v.base t) ⊎ (v.base t + v.size t ≤ v.base s)
  disjoint s t ls lt d = go (dec_lt s t)
    where
      go : Dec (s < t) → (v.base s + v.size s ≤ v.base t) ⊎ (v.base t + v.size t ≤ v.base s)
      go (yes l) = segment_apart limits v t (g.segment t lt) s l
      go (no l) = ⊎_elim (λ x. inr x) (λ x. inl x) (segment_apart limits v s (g.segment s ls) t (omega arith))

  save_own : (p q : ℕ) → p < v.partitions → q < v.partitions → v.save p ≡ v.save q → p ≡ q
  save_own p q lp lq e = go (dec_lt p q) (dec_lt q p)
    where
      go : Dec (p < q) → Dec (q < p) → p ≡ q
      go (yes l) m = absurd (partition_own limits v q (g.partition q lq) p l (sym e))
      go (no l) (yes m) = absurd (partition_own limits v p (g.partition p lp) q m e)
      go (no l) (no m) = omega arith

  save_no_code : (p q : ℕ) → p < v.partitions → q < v.partitions → v.code p ≡ v.save q → ⊥
  save_no_code p q lp lq e = go (dec_lt p q) (dec_lt q p)
    where
      go : Dec (p < q) → Dec (q < p) → ⊥
      go (yes l) m = partition_earlier limits v q (g.partition q lq) p l (sym e)
      go (no l) (yes m) = partition_later limits v p (g.partition p lp) q m e
      go (no l) (no m) =
          let s : p ≡ q = omega arith in partition_parts limits v p (g.partition p lp) (e ∙ ap v.save (sym s))

  save_bare : (p q : ℕ) → p < v.partitions → q < v.partitions → v.reads p (v.save q) || v.writes p (v.save q) ≡ false
  save_bare p q lp lq =
      let there = partition_save limits v q (g.partition q lq) in
      right_on_save limits v p (v.save q) (g.right p (v.save q) (omega arith) (omega arith)) q lq refl

  flow_on : (s t : ℕ) → FlowLine v s t → s ≡ t → ⊥
  flow_on s t f = flow_goes limits v s t (g.flow s t (omega arith) (omega arith)) f.stands

pub lawful : (limits : Limits) (t : Tables) → sound_of limits t ≡ true → Lawful limits (view_of t)
unfolding sound_of
lawful limits t h =
    let v = view_of t in
    let c = counts limits v (search parts) in
    let g = good limits v (search parts) in
    let w : is_accepted (whole_refusal v) ≡ true = search parts in
    record {
      few_segments = c.segments;
      few_partitions = c.partitions;
      few_slots = c.slots;
      some_segment = whole_segments v w;
      some_partition = whole_partitions v w;
      some_slot = whole_slots v w;
      size_least = λ s l. segment_least limits v s (g.segment s l);
      size_most = λ s l. segment_most limits v s (g.segment s l);
      inside = λ s l. segment_inside limits v s (g.segment s l);
      disjoint = disjoint limits v c g;
      code_there = λ p l. partition_code limits v p (g.partition p l);
      save_there = λ p l. partition_save limits v p (g.partition p l);
      save_size = λ p l. partition_size limits v p (g.partition p l);
      save_own = save_own limits v c g;
      save_no_code = save_no_code limits v c g;
      save_unread = λ p q lp lq. or_left _ _ (save_bare limits v c g p q lp lq);
      save_unwritten = λ p q lp lq. or_right (v.reads p (v.save q)) _ (save_bare limits v c g p q lp lq);
      code_read = whole_reads v w;
      owner_there = λ i l. slot_owner limits v i (g.slot i l);
      ticks_least = λ i l. slot_least limits v i (g.slot i l);
      ticks_most = λ i l. slot_most limits v i (g.slot i l);
      flow_on = flow_on limits v c g;
      flow_asked = whole_flows v w;
      save_sources = whole_sources v w;
    }

-- 000's sentence: into a save segment a line goes from what its partition may read (16), and from all of that (8).
pub save_dia : (limits : Limits) (v : View) → Lawful limits v → SaveDia v
save_dia limits v h p s lp ls =
    let t = h.save_there p lp in
    let own : writable v p (v.save p) ≡ true = rw (eq-eqb (v.save p) (v.save p) refl) in (
      λ f. (h.save_sources p s lp ls f, h.flow_on s (v.save p) (record { from = ls; to = t; stands = f })),
      λ r. h.flow_asked p (v.save p) s lp t ls own r.0 r.1,
    )
