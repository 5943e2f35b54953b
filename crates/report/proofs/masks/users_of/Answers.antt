-- The loop has the mask of the partitions that it has passed, which is below the next bit.
use Rattle.std.proofs.Common.{◌≡◌, ◌*◌, ◌%◌, ◌^◌, ◌<◌, ◌≤◌, refl, sym, arith, add-one}
use native.Mathlib.Nat.{add-zero}
use lib.Pow.{pow_mono}
use Rattle.bits.specs.Masks.{mask_of}
use Rattle.bits.proofs.Laws.Masks.{mask_under}
use Rattle.report.proofs.masks.users_of.Goals as goal
use Rattle.report.proofs.masks.users_of.Goals.{then-s-save, else-s-save}

pub loop-p-init : goal.loop-p-init
unfolding mask_of
loop-p-init c = refl

pub overflow_add-users : goal.overflow_add-users
overflow_add-users c =
    let under : c.loop-p.users < 2 ^ c.loop-p.p = rw c.loop-p.invariant (mask_under _ _) in
    omega (arith, under, pow_mono {i = c.loop-p.p} {j = 8} (omega arith))

pub loop-p-preserved : goal.loop-p-preserved
unfolding mask_of
loop-p-preserved c =
    let p = c.loop-p.p in
    let small : 2 ^ p ≤ 256 = pow_mono {i = p} {j = 8} (omega arith) in
    let bit : 1 * 2 ^ p % 4294967296 ≡ 2 ^ p = omega arith in
    elim c.if-s-save.branch [
      | then-s-save w ↦ rw (w.users-is, bit, add-one, c.loop-p.invariant) (rw (← c.has_bit.ensures, w.if-s-save.true) refl)
      | else-s-save w ↦ rw (w.users-is, add-one, c.loop-p.invariant) (rw (← c.has_bit.ensures, w.if-s-save.false) (sym (add-zero _)))
    ]
