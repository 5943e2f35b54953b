-- S-7's theorems as the sheet of a sound record shows them.
use Prim.Native.Nat.{ℕ}
use mathlib.Core.Path.{◌≡◌, refl, ◌∙◌}
use native.Mathlib.Omega.{arith}
use lib.ListN.{get_or}
use lib.Seq.{get_or-set_same, get_or-set_other}
use Rattle.policy.specs.Limits.{Limits}
use Rattle.policy.specs.Tables.{Tables, view_of}
use Rattle.policy.specs.Schedule.{own_ticks}
use Rattle.policy.specs.Silence.{OneSlotApart}
use Rattle.policy.proofs.Entries.{lengths}
use Rattle.policy.proofs.Lawful.{lawful}
use Rattle.policy.proofs.Longest.{longest}
use Rattle.policy.proofs.Schedule.{adds_up_to, moves_little}
use Rattle.policy.proofs.Laws.Sums.{sum_same}
use Rattle.sheet.specs.Shown.{SheetLongest, SheetAddsUp, SheetMovesLittle, with_ticks}
use Rattle.sheet.proofs.Laws.Answer.{own_at, silence_at, sheet_ok}

pub sheet_longest : (limits : Limits) (t : Tables) → SheetLongest limits t
sheet_longest limits t h =
    rw (sheet_ok limits t h) (λ p own. rw (silence_at limits t h p) (longest limits (view_of t) (lawful limits t h) p own))

pub sheet_adds_up : (limits : Limits) (t : Tables) → SheetAddsUp limits t
sheet_adds_up limits t h =
    rw (sheet_ok limits t h)
    (sum_same _ (own_ticks (view_of t)) limits.partitions (λ p l. own_at limits t h p)
    ∙ adds_up_to limits (view_of t) (lawful limits t h) limits.partitions (lawful limits t h).few_partitions)

pub sheet_moves_little : (limits : Limits) (t : Tables) (j n : ℕ) → SheetMovesLittle limits t j n
sheet_moves_little limits t j n h g l =
    rw (sheet_ok limits t h, sheet_ok limits (with_ticks t j n) g)
    (λ p. rw (silence_at limits t h p, silence_at limits (with_ticks t j n) g p)
    (rw same at (moves_little (view_of t) (view_of (with_ticks t j n)) j apart p)))
  where
    same : get_or (with_ticks t j n).slots.ticks j 0 ≡ n
    same = get_or-set_same t.slots.ticks j n 0 (omega (arith, (lengths limits t h).ticks, (lawful limits t h).few_slots))

    apart : OneSlotApart (view_of t) (view_of (with_ticks t j n)) j
    apart =
        record {
          slots = refl;
          same_booked = λ k. refl;
          other_ticks = λ k d. get_or-set_other t.slots.ticks j k n 0 d;
        }
