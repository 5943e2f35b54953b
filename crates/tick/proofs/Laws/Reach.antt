-- What a segment that is reached, or that is the save segment, has of memory; and a store's effect, applied, is the store by numbers, since
-- both put the save bytes first.
use Prim.Native.Nat.{ℕ, ◌+◌, ◌≤◌, ◌<◌}
use native.Mathlib.Omega.{arith}
use mathlib.Core.Path.{◌≡◌, sym, ◌∙◌}
use mathlib.Core.Bool.{Bool, true}
use mathlib.Core.List.{List}
use lib.ListN.{get_or, length}
use Rattle.machine.specs.declared.Fault.TheVariants.{OffsetOver}
use Rattle.machine.specs.Bytes.{digits}
use Rattle.machine.specs.Save.{register}
use Rattle.machine.specs.Faults.{faults}
use Rattle.machine.specs.Local.{advanced}
use Rattle.machine.specs.Tick.{Seat, reaches, in_segment, may_store, stores_bytes, stores, saves}
use Rattle.machine.proofs.Laws.Tests.{applied_cond, reaches_there}
use Rattle.tick.specs.Seat.{Inside, Seated}
use Rattle.parts.specs.Parts.{saved_at, stored_to}
use Rattle.tick.specs.Done.{stored}

-- A test's answer, and that it was yes: as a caller of `may` has them.
module _ {base size : List ℕ} {segments whole : ℕ} (f : Inside base size segments whole)
    (answer given : Bool) (c : ℕ) (told : answer ≡ reaches segments given c) (granted : answer ≡ true) where
  reached : c < segments
  reached = reaches_there segments given c (sym told ∙ granted)

  pub reach_base : c < length base
  reach_base = omega (arith, f.base_there, reached)

  pub reach_size : c < length size
  reach_size = omega (arith, f.size_there, reached)

  pub reach_inside : get_or base c 0 + get_or size c 0 ≤ whole
  reach_inside = f.inside c reached

pub save_inside : {base size : List ℕ} {segments code save whole : ℕ} → Seated base size segments code save whole → get_or base save 0 + 44 ≤ whole
save_inside {base} {size} {segments} {code} {save} {whole} f = rw (← f.save_size) (f.every.inside save f.save_there)

pub stored_to_lem : (S : Seat) (width : ℕ) (m : List ℕ) (from a b c : ℕ) (answer : Bool) → answer ≡ may_store S c → answer ≡ true
    → stored S width from m a b c ≡ stored_to width m from (S.base c) (S.size c) a b
unfolding stores_bytes stored_to
stored_to_lem S width m from a b c answer told granted =
    let s = saved_at m from in
    rw (sym told ∙ granted)
    (applied_cond S from (in_segment width (register s b) (S.size c))
    (stores (advanced s) c (register s b) (digits width (register s a)))
    (saves (faults s OffsetOver))
    m)
