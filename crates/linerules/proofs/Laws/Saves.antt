-- The mask of the save segments of a record: a partition line sets the bit of its own.
use Prim.Native.Nat.{ℕ, ◌+◌, ◌<◌}
use mathlib.Core.Path.{◌≡◌, sym, ◌∙◌, ap}
use mathlib.Core.List.{List}
use lib.Dec.{eqb}
use lib.ListN.{length, get_or, set}
use Rattle.bits.specs.Masks.{with_bit}
use Rattle.bits.proofs.Laws.Masks.{has_none, has-with}
use Rattle.policy.specs.Below.{some_below}
use Rattle.policy.specs.Limits.{single}
use Rattle.policy.specs.Tables.{Tables, zeros}
use Rattle.policy.proofs.Laws.Below.{some_next, some_same}
use Rattle.policy.proofs.Laws.Stored.{stored_at, stored_below}
use Rattle.linerules.specs.Parts.{Barred}

-- The bits of a mask are the save segments of a record.
abbrev pub Saves : Tables → ℕ → Type 0
Saves t mask = Barred t.partitions.save t.partitions.count mask

pub saves_none : (t : Tables) → t ≡ zeros single → Saves t 0
unfolding some_below
saves_none t e = rw e has_none

module _ (saves : List ℕ) (id save mask : ℕ) (long : length saves ≡ 8) (room : id < 8) (are : Barred saves id mask) where
  pub saves_stored : Barred (set saves id save) (id + 1) (with_bit mask save)
  saves_stored s =
      has-with mask save s
      ∙ some_next (λ q. eqb s (get_or (set saves id save) q 0)) id _ _
      (are s
      ∙ some_same (λ q. eqb s (get_or saves q 0)) (λ q. eqb s (get_or (set saves id save) q 0)) id
      (λ q l. ap (eqb s) (sym (stored_below saves id save q l))))
      (ap (eqb s) (sym (stored_at saves id save 8 long room)))
