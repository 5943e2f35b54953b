-- The loop has the mask of the partitions that it has passed.
use Rattle.std.proofs.Common.{◌≡◌}
use mathlib.Core.Bool.{◌||◌}
use lib.Dec.{eqb}
use lib.ListN.{get_or}
use Rattle.bits.specs.Masks.{has, mask_of}
use Rattle.report.proofs.masks.users_of.Given as goal

abbrev pub invariant-loop-p : goal.invariant-loop-p
invariant-loop-p l = l.users ≡ mask_of l.p (λ p. eqb l.s (get_or l.save p 0) || has (get_or l.masks p 0) l.s)
