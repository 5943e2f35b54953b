-- What the test of soundness tells of a record that passes it: its conjuncts, one by one.
use Prim.Native.Nat.{ℕ, zero, suc, ◌≤◌, ◌<◌, ◌^◌}
use mathlib.Core.Path.{◌≡◌}
use mathlib.Core.List.{List, [], ◌∷◌}
use mathlib.Core.Bool.{Bool, true, false, ◌||◌, not, false≢true}
use borrow.Author.Tests.{eqb-true, leb-true, ltb-true}
use lib.ListN.{length, drop}
use lib.Dec.{ltb}
use lib.Pow.{pow_pos}
use Rattle.bits.specs.Masks.{AllUnder}
use Rattle.text.specs.declared.line.Line.TheVariants.{Right, Flow}
use Rattle.policy.specs.Below.{each_below}
use Rattle.policy.specs.Limits.{Limits}
use Rattle.policy.specs.Modes.{mode_in}
use Rattle.policy.specs.Tables.{Tables, view_of}
use Rattle.policy.specs.Read.{whole_refusal}
use Rattle.policy.specs.Refusals.{is_accepted}
use Rattle.policy.specs.Sound.{passes, good_segment, good_partition, good_right, good_flow, good_slot, all_zero, all_under, is_shaped, counts_fit, unused_zero, masks_fit, lines_hold, sound_of}
use Rattle.policy.proofs.Laws.Bools.{and_left, and_right}
use Rattle.policy.proofs.Laws.Below.{each_at}
use Rattle.policy.proofs.Laws.Tests.{parts}

pub record Shaped (limits : Limits) (t : Tables) : Type 0 where
  pub base : length t.segments.base ≡ limits.segments
  pub size : length t.segments.size ≡ limits.segments
  pub code : length t.partitions.code ≡ limits.partitions
  pub save : length t.partitions.save ≡ limits.partitions
  pub owner : length t.slots.owner ≡ limits.slots
  pub ticks : length t.slots.ticks ≡ limits.slots
  pub reads : length t.rights.reads ≡ limits.partitions
  pub writes : length t.rights.writes ≡ limits.partitions
  pub sources : length t.flows.sources ≡ limits.segments

pub record Unused (t : Tables) : Type 0 where
  pub base : all_zero (drop t.segments.count t.segments.base) ≡ true
  pub size : all_zero (drop t.segments.count t.segments.size) ≡ true
  pub code : all_zero (drop t.partitions.count t.partitions.code) ≡ true
  pub save : all_zero (drop t.partitions.count t.partitions.save) ≡ true
  pub owner : all_zero (drop t.slots.count t.slots.owner) ≡ true
  pub ticks : all_zero (drop t.slots.count t.slots.ticks) ≡ true
  pub byte : t.unused ≡ 0

pub record Masks (limits : Limits) (t : Tables) : Type 0 where
  pub reads : AllUnder limits.segments t.rights.reads
  pub writes : AllUnder limits.segments t.rights.writes
  pub sources : AllUnder limits.segments t.flows.sources

pub record Passed (limits : Limits) (t : Tables) : Type 0 where
  pub shape : Shaped limits t
  pub few_segments : t.segments.count ≤ limits.segments
  pub few_partitions : t.partitions.count ≤ limits.partitions
  pub few_slots : t.slots.count ≤ limits.slots
  pub unused : Unused t
  pub masks : Masks limits t
  pub segment : (i : ℕ) → i < t.segments.count → good_segment limits (view_of t) i ≡ true
  pub partition : (i : ℕ) → i < t.partitions.count → good_partition limits (view_of t) i ≡ true
  pub right : (p s : ℕ) → p < limits.partitions → s < limits.segments →
      (view_of t).reads p s || (view_of t).writes p s ≡ true → passes limits (view_of t) (Right p s (mode_in (view_of t) p s)) ≡ true
  pub flow : (s u : ℕ) → s < limits.segments → u < limits.segments →
      (view_of t).flow s u ≡ true → passes limits (view_of t) (Flow s u) ≡ true
  pub slot : (i : ℕ) → i < t.slots.count → good_slot limits (view_of t) i ≡ true
  pub whole : is_accepted (whole_refusal (view_of t)) ≡ true

shaped : (limits : Limits) (t : Tables) → is_shaped limits t ≡ true → Shaped limits t
unfolding is_shaped
shaped limits t h =
    record {
      base = eqb-true (length t.segments.base) limits.segments (search parts depth 9);
      size = eqb-true (length t.segments.size) limits.segments (search parts depth 9);
      code = eqb-true (length t.partitions.code) limits.partitions (search parts depth 9);
      save = eqb-true (length t.partitions.save) limits.partitions (search parts);
      owner = eqb-true (length t.slots.owner) limits.slots (search parts);
      ticks = eqb-true (length t.slots.ticks) limits.slots (search parts);
      reads = eqb-true (length t.rights.reads) limits.partitions (search parts);
      writes = eqb-true (length t.rights.writes) limits.partitions (search parts);
      sources = eqb-true (length t.flows.sources) limits.segments (search parts);
    }

unused_zero_lem : (t : Tables) → unused_zero t ≡ true → Unused t
unfolding unused_zero
unused_zero_lem t h =
    record {
      base = search parts;
      size = search parts;
      code = search parts;
      save = search parts;
      owner = search parts;
      ticks = search parts;
      byte = eqb-true t.unused 0 (search parts);
    }

all_under_lem : (n : ℕ) (masks : List ℕ) → all_under (2 ^ n) masks ≡ true → AllUnder n masks
unfolding all_under
all_under_lem n [] h i = pow_pos n
all_under_lem n (m ∷ ms) h zero = ltb-true m (2 ^ n) (and_left (ltb m (2 ^ n)) (all_under (2 ^ n) ms) h)
all_under_lem n (m ∷ ms) h (suc i) = all_under_lem n ms (and_right (ltb m (2 ^ n)) (all_under (2 ^ n) ms) h) i

masks_fit_lem : (limits : Limits) (t : Tables) → masks_fit limits t ≡ true → Masks limits t
unfolding masks_fit
masks_fit_lem limits t h =
    record {
      reads = all_under_lem limits.segments t.rights.reads (search parts);
      writes = all_under_lem limits.segments t.rights.writes (search parts);
      sources = all_under_lem limits.segments t.flows.sources (search parts);
    }

-- What a test asks of a pair that stands.
stands : (a b : Bool) → not a || b ≡ true → a ≡ true → b ≡ true
stands true b h e = h
stands false b h e = absurd (false≢true e)

module _ (f : ℕ → ℕ → Bool) where
  each_pair : (n m : ℕ) → each_below n (λ a. each_below m (λ b. f a b)) ≡ true → (a b : ℕ) → a < n → b < m → f a b ≡ true
  each_pair n m h a b l k = each_at (f a) m (each_at (λ a. each_below m (λ b. f a b)) n h a l) b k

pub passed : (limits : Limits) (t : Tables) → sound_of limits t ≡ true → Passed limits t
unfolding sound_of counts_fit lines_hold good_right good_flow
passed limits t h =
    let v = view_of t in
    record {
      shape = shaped limits t (search parts);
      few_segments = leb-true v.segments limits.segments (search parts depth 9);
      few_partitions = leb-true v.partitions limits.partitions (search parts depth 9);
      few_slots = leb-true v.slots limits.slots (search parts);
      unused = unused_zero_lem t (search parts);
      masks = masks_fit_lem limits t (search parts);
      segment = each_at (good_segment limits v) v.segments (search parts);
      partition = each_at (good_partition limits v) v.partitions (search parts);
      right = λ p s l k. stands _ _ (each_pair (good_right limits v) limits.partitions limits.segments (search parts) p s l k);
      flow = λ s u l k. stands _ _ (each_pair (good_flow limits v) limits.segments limits.segments (search parts) s u l k);
      slot = each_at (good_slot limits v) v.slots (search parts);
      whole = search parts;
    }
