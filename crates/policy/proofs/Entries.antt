-- The test that decides soundness, conjunct by conjunct, as facts: each is one of its conjuncts, or what that tests.
use Prim.Native.Nat.{ℕ, ◌≤◌, ◌<◌}
use mathlib.Core.Path.{◌≡◌}
use mathlib.Core.Bool.{true}
use borrow.Author.Tests.{eqb-true, leb-true, eq-eqb, le-leb}
use lib.ListN.{length, drop}
use Rattle.bits.specs.Masks.{AllUnder}
use Rattle.policy.specs.Limits.{Limits}
use Rattle.policy.specs.View.{View}
use Rattle.policy.specs.Tables.{Tables}
use Rattle.policy.specs.Sound.{good_segment, good_partition, good_right, good_flow, good_slot, all_zero, is_shaped, counts_fit, unused_zero, masks_fit, lines_hold, sound_of}
use Rattle.policy.proofs.Laws.Bools.{and_both}
use Rattle.policy.proofs.Laws.Below.{each_at, each_of, pairs_at, pairs_of}
use Rattle.policy.proofs.Laws.Bits.{under_at, under_of}
use Rattle.policy.proofs.Laws.Tests.{parts}

pub record Lengths (limits : Limits) (t : Tables) : Type 0 where
  pub base : length t.segments.base ≡ limits.segments
  pub size : length t.segments.size ≡ limits.segments
  pub code : length t.partitions.code ≡ limits.partitions
  pub save : length t.partitions.save ≡ limits.partitions
  pub owner : length t.slots.owner ≡ limits.slots
  pub ticks : length t.slots.ticks ≡ limits.slots
  pub reads : length t.rights.reads ≡ limits.partitions
  pub writes : length t.rights.writes ≡ limits.partitions
  pub sources : length t.flows.sources ≡ limits.segments

pub record Counts (limits : Limits) (v : View) : Type 0 where
  pub segments : v.segments ≤ limits.segments
  pub partitions : v.partitions ≤ limits.partitions
  pub slots : v.slots ≤ limits.slots

pub record Unused (t : Tables) : Type 0 where
  pub base : all_zero (drop t.segments.count t.segments.base) ≡ true
  pub size : all_zero (drop t.segments.count t.segments.size) ≡ true
  pub code : all_zero (drop t.partitions.count t.partitions.code) ≡ true
  pub save : all_zero (drop t.partitions.count t.partitions.save) ≡ true
  pub owner : all_zero (drop t.slots.count t.slots.owner) ≡ true
  pub ticks : all_zero (drop t.slots.count t.slots.ticks) ≡ true
  pub byte : t.unused ≡ 0

pub record Fit (limits : Limits) (t : Tables) : Type 0 where
  pub reads : AllUnder limits.segments t.rights.reads
  pub writes : AllUnder limits.segments t.rights.writes
  pub sources : AllUnder limits.segments t.flows.sources

pub record Good (limits : Limits) (v : View) : Type 0 where
  pub segment : (i : ℕ) → i < v.segments → good_segment limits v i ≡ true
  pub partition : (i : ℕ) → i < v.partitions → good_partition limits v i ≡ true
  pub right : (p s : ℕ) → p < limits.partitions → s < limits.segments → good_right limits v p s ≡ true
  pub flow : (s u : ℕ) → s < limits.segments → u < limits.segments → good_flow limits v s u ≡ true
  pub slot : (i : ℕ) → i < v.slots → good_slot limits v i ≡ true

module _ (limits : Limits) (v : View) where
  pub counts : counts_fit limits v ≡ true → Counts limits v
  unfolding counts_fit
  counts h = search (parts, leb-true)

  pub good : lines_hold limits v ≡ true → Good limits v
  unfolding lines_hold
  good h =
      record {
        segment = each_at (good_segment limits v) v.segments (search parts);
        partition = each_at (good_partition limits v) v.partitions (search parts);
        right = pairs_at (good_right limits v) limits.partitions limits.segments (search parts);
        flow = pairs_at (good_flow limits v) limits.segments limits.segments (search parts);
        slot = each_at (good_slot limits v) v.slots (search parts);
      }

  -- and back
  pub counts_of : Counts limits v → counts_fit limits v ≡ true
  unfolding counts_fit
  counts_of c = search (and_both, le-leb)

  pub good_of : Good limits v → lines_hold limits v ≡ true
  unfolding lines_hold
  good_of g =
      rw (
        each_of (good_segment limits v) v.segments g.segment,
        each_of (good_partition limits v) v.partitions g.partition,
        pairs_of (good_right limits v) limits.partitions limits.segments g.right,
        pairs_of (good_flow limits v) limits.segments limits.segments g.flow,
        each_of (good_slot limits v) v.slots g.slot,
      )

module _ (limits : Limits) (t : Tables) where
  pub shaped_of : Lengths limits t → is_shaped limits t ≡ true
  unfolding is_shaped
  shaped_of l = search (and_both, eq-eqb) depth 12

  pub unused_of : Unused t → unused_zero t ≡ true
  unfolding unused_zero
  unused_of u = search (and_both, eq-eqb) depth 12

  pub fit_of : Fit limits t → masks_fit limits t ≡ true
  unfolding masks_fit
  fit_of f = search (and_both, under_of) depth 12

  -- of a record that passes the test
  module _ (h : sound_of limits t ≡ true) where
    pub lengths : Lengths limits t
    unfolding sound_of is_shaped
    lengths = let s : is_shaped limits t ≡ true = search parts in search (parts, eqb-true) depth 12

    pub unused : Unused t
    unfolding sound_of unused_zero
    unused = let s : unused_zero t ≡ true = search parts in search (parts, eqb-true) depth 12

    pub fit : Fit limits t
    unfolding sound_of masks_fit
    fit = let s : masks_fit limits t ≡ true = search parts in search (parts, under_at) depth 12
