-- Keys compare by kind, then first number, then second: of a pair's kind that is what the definition asks.
use Prim.Native.Nat.{ℕ}
use mathlib.Core.Path.{◌≡◌}
use mathlib.Core.Bool.{◌&&◌, ◌||◌, not, or-false}
use native.Mathlib.Omega.{arith}
use lib.Dec.{eqb, ltb}
use Rattle.std.specs.Prelude.{Some}
use Rattle.std.specs.Ordering.{is_le, is_some_and, nat_cmp, partial_ordering_then}
use Rattle.std.proofs.lemmas.Bool.Decides.{nat_tests}
use Rattle.policy.specs.declared.record.Key.{Key}
use Rattle.policy.specs.Order.{ascends, out_of_order}
use Rattle.linerules.proofs.draft.Draft.out_of_order.Goals as goal

key-falls : (kind first second : ℕ) (before : Key) →
    is_some_and is_le
    (partial_ordering_then (Some (nat_cmp kind before.kind))
    (partial_ordering_then (Some (nat_cmp first before.first)) (Some (nat_cmp second before.second))))
    ≡ ltb kind before.kind || eqb before.kind kind && not (ascends before first second)
key-falls kind first second before = grind (arith, nat_tests)

pub returns-in-Right : goal.returns-in-Right
unfolding out_of_order
returns-in-Right c =
    rw (c.le.ensures, c.key_of-key.ensures, c.in-Right.is, or-false)
    (key-falls 2 c.in-Right.partition c.in-Right.segment c.args.self.now.before)

pub returns-in-Flow : goal.returns-in-Flow
unfolding out_of_order
returns-in-Flow c =
    rw (c.le-in-Flow.ensures, c.key_of-key.ensures, c.in-Flow.is, or-false)
    (key-falls 3 c.in-Flow.from c.in-Flow.to c.args.self.now.before)
