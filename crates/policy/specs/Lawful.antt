-- What a sound record gives whoever rests on it: the laws of rules 4 to 8 and 16, over its view. Nothing else of the reader is
-- known above.
use Rattle.std.specs.Prelude.{ℕ, ◌+◌, ◌≤◌, ◌<◌, ◌≡◌, true, false, ◌⊎◌}
use Rattle.policy.specs.Limits.{Limits, longest_segment, save_size, most_ticks}
use Rattle.policy.specs.View.{View}
use Rattle.policy.specs.Access.{readable, writable}
use Rattle.policy.specs.Chain.{FlowLine}

pub record Lawful (limits : Limits) (v : View) : Type 0 where
  -- the counts: within the limits (4), and none is 0 (6)
  pub few_segments : v.segments ≤ limits.segments
  pub few_partitions : v.partitions ≤ limits.partitions
  pub few_slots : v.slots ≤ limits.slots
  pub some_segment : 0 < v.segments
  pub some_partition : 0 < v.partitions
  pub some_slot : 0 < v.slots
  -- segments: 1 to 4,096 bytes, inside memory, and disjoint
  pub size_least : (s : ℕ) → s < v.segments → 1 ≤ v.size s
  pub size_most : (s : ℕ) → s < v.segments → v.size s ≤ longest_segment
  pub inside : (s : ℕ) → s < v.segments → v.base s + v.size s ≤ limits.memory
  pub disjoint : (s t : ℕ) → s < v.segments → t < v.segments → (s ≡ t → ⊥) →
      (v.base s + v.size s ≤ v.base t) ⊎ (v.base t + v.size t ≤ v.base s)
  -- partitions: their segments are there; a save segment has 44 bytes, one partition, and is no code
  pub code_there : (p : ℕ) → p < v.partitions → v.code p < v.segments
  pub save_there : (p : ℕ) → p < v.partitions → v.save p < v.segments
  pub save_size : (p : ℕ) → p < v.partitions → v.size (v.save p) ≡ save_size
  pub save_own : (p q : ℕ) → p < v.partitions → q < v.partitions → v.save p ≡ v.save q → p ≡ q
  pub save_no_code : (p q : ℕ) → p < v.partitions → q < v.partitions → v.code p ≡ v.save q → ⊥
  -- rights: none on a save segment, and r on the own code segment (7)
  pub save_unread : (p q : ℕ) → p < v.partitions → q < v.partitions → v.reads p (v.save q) ≡ false
  pub save_unwritten : (p q : ℕ) → p < v.partitions → q < v.partitions → v.writes p (v.save q) ≡ false
  pub code_read : (p : ℕ) → p < v.partitions → v.reads p (v.code p) ≡ true
  -- slots
  pub owner_there : (i : ℕ) → i < v.slots → v.owner i < v.partitions
  pub ticks_least : (i : ℕ) → i < v.slots → 1 ≤ v.ticks i
  pub ticks_most : (i : ℕ) → i < v.slots → v.ticks i ≤ most_ticks
  -- flow lines: none from a segment to itself, each that 8 asks for, and into a save segment none but from R(p) (16)
  pub flow_on : (s t : ℕ) → FlowLine v s t → s ≡ t → ⊥
  pub flow_asked : (p t s : ℕ) → p < v.partitions → t < v.segments → s < v.segments →
      writable v p t ≡ true → readable v p s ≡ true → (s ≡ t → ⊥) → v.flow s t ≡ true
  pub save_sources : (p s : ℕ) → p < v.partitions → s < v.segments → v.flow s (v.save p) ≡ true → readable v p s ≡ true
