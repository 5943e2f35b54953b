-- What the first tests refuse is refused and left; past them each return rewrites with the tests on the way, which are the definition's in its order.
use Rattle.std.proofs.Common.{◌<◌, refl, sym, arith, mod-eq_of_lt, one-mul, le-ltb, lt-ltb, le-leb}
use Rattle.std.proofs.lemmas.Result.{err_from_is_err_and}
use lib.Pow.{pow-lt}
use borrow.Author.Tests.{lt-leb}
use Rattle.calls.specs.Under.{under_policy}
use Rattle.calls.specs.Pend.{last_line, with_line, after_pend}
use Rattle.calls.proofs.Laws.Outcomes.{start_whole, start_sound, pend_refused, pend_passed}
use Rattle.kernel.proofs.line.pend.Goals as goal

pub returns-in_err-tested-clause-outcome : goal.returns-in_err-tested-clause-outcome
returns-in_err-tested-clause-outcome c =
    let p = err_from_is_err_and c.from_residual.result c.from_residual.ensures.1 in
    rw (p.1, p.2, pend_refused _ _ _ _ _ (sym c.in_err-tested.ensures))

pub returns-in_err-tested-clause-memory_after : goal.returns-in_err-tested-clause-memory_after
unfolding after_pend
returns-in_err-tested-clause-memory_after c =
    rw (pend_refused (under_policy c.args.policy.now) c.args.memory.now c.args.partition c.args.line _ (sym c.in_err-tested.ensures))

pub returns-then-from-partition : goal.returns-then-from-partition
unfolding after_pend
returns-then-from-partition c =
    rw (
      pend_passed (under_policy c.args.policy.now) c.args.memory.now c.args.partition c.args.line (sym c.in_ok-tested.ensures),
      le-leb c.args.policy.now.partitions c.args.partition (omega arith),
    )
    (record { outcome = refl; memory_after = refl })

pub returns-then-line-gt-LAST_LINE : goal.returns-then-line-gt-LAST_LINE
unfolding after_pend
returns-then-line-gt-LAST_LINE c =
    rw (
      pend_passed (under_policy c.args.policy.now) c.args.memory.now c.args.partition c.args.line (sym c.in_ok-tested.ensures),
      lt-leb c.args.policy.now.partitions c.args.partition (omega arith),
      lt-ltb last_line _ c.if-line-gt-LAST_LINE.true,
    )
    (record { outcome = refl; memory_after = refl })

pub save_from-at-requires-clause-sound : goal.save_from-at-requires-clause-sound
save_from-at-requires-clause-sound c = start_sound (under_policy c.args.policy.now) c.args.memory.now (sym c.in_ok-tested.ensures)

pub bounds-memory-at : goal.bounds-memory-at
bounds-memory-at c =
    omega (arith, start_whole (under_policy c.args.policy.now) c.args.memory.now (sym c.in_ok-tested.ensures), c.save_from-at.ensures.inside)

pub bounds-memory-at-2 : goal.bounds-memory-at-2
bounds-memory-at-2 c =
    omega (arith, start_whole (under_policy c.args.policy.now) c.args.memory.now (sym c.in_ok-tested.ensures), c.save_from-at.ensures.inside)

pub returns : goal.returns
unfolding with_line after_pend
returns c =
    let small : c.args.line < 8 = omega (arith, c.if-line-gt-LAST_LINE.false) in
    rw (
      pend_passed (under_policy c.args.policy.now) c.args.memory.now c.args.partition c.args.line (sym c.in_ok-tested.ensures),
      lt-leb c.args.policy.now.partitions c.args.partition (omega arith),
      le-ltb _ _ c.if-line-gt-LAST_LINE.false,
    )
    (record { outcome = refl; memory_after = rw (one-mul, mod-eq_of_lt (pow-lt {j = 8} small), c.save_from-at.ensures.base) })
