-- The tests of the entries in the order of the code and in that of the definition.
use Prim.Native.Nat.{ℕ}
use mathlib.Core.Path.{◌≡◌}
use mathlib.Core.Bool.{Bool, ◌&&◌}
use lib.Dec.{eqb}
use lib.ListN.{drop}
use Rattle.policy.specs.Below.{each_below}
use Rattle.policy.specs.Limits.{single}
use Rattle.policy.specs.Sound.{all_zero, good_flow, good_partition, good_right, good_segment, good_slot, lines_hold, unused_zero}
use Rattle.policy.specs.Tables.{Tables, view_of}
use Rattle.policy.specs.View.{View}
use Rattle.policy.proofs.Laws.Bools.{and_both, same_truth}
use Rattle.policy.proofs.Laws.Tests.{parts}

in_order : (base size owner ticks slots code save reads writes byte segments partitions rights flows : Bool) →
    base && size && (owner && ticks) && slots && (code && save && reads && writes) && byte && segments && partitions && rights && flows
    ≡ base && size && code && save && owner && ticks && byte && (segments && partitions && (reads && writes && rights) && flows && slots)
in_order base size owner ticks slots code save reads writes byte segments partitions rights flows =
    same_truth _ _ (λ h. search (parts, and_both) depth 30) (λ h. search (parts, and_both) depth 30)

module _ (t : Tables) where
  abbrev view : View
  view = view_of t

  abbrev base : Bool
  base = all_zero (drop t.segments.count t.segments.base)

  abbrev size : Bool
  size = all_zero (drop t.segments.count t.segments.size)

  abbrev code : Bool
  code = all_zero (drop t.partitions.count t.partitions.code)

  abbrev save : Bool
  save = all_zero (drop t.partitions.count t.partitions.save)

  abbrev owner : Bool
  owner = all_zero (drop t.slots.count t.slots.owner)

  abbrev ticks : Bool
  ticks = all_zero (drop t.slots.count t.slots.ticks)

  abbrev segments : Bool
  segments = each_below t.segments.count (good_segment single view)

  abbrev partitions : Bool
  partitions = each_below t.partitions.count (good_partition single view)

  abbrev slots : Bool
  slots = each_below t.slots.count (good_slot single view)

  abbrev reads : Bool
  reads = all_zero (drop t.partitions.count t.rights.reads)

  abbrev writes : Bool
  writes = all_zero (drop t.partitions.count t.rights.writes)

  abbrev rights : ℕ → Bool
  rights n = each_below n (λ p. each_below 32 (good_right single view p))

  abbrev flows : Bool
  flows = each_below 32 (λ s. each_below 32 (good_flow single view s))

  pub held_told : reads && writes && rights t.partitions.count ≡ rights 8 →
      base && size && (owner && ticks) && slots && (code && save && reads && writes) && eqb t.unused 0 && segments && partitions && rights t.partitions.count && flows
      ≡ unused_zero t && lines_hold single (view_of t)
  unfolding unused_zero lines_hold
  held_told e =
      rw (← e)
      (in_order base size owner ticks slots code save reads writes (eqb t.unused 0) segments partitions (rights t.partitions.count) flows)
