-- The offset is read first, and the code's two cases are those of `loaded_from`; a result leaves lines, handler and state, and a fault asks.
use Rattle.std.proofs.Common.{rules}
use native.Mathlib.Nat.{add-sub_cancel_left}
use borrow.Author.Tests.{le-leb, lt-leb}
use Rattle.machine.specs.Tick.{in_segment}
use Rattle.savearea.specs.declared.step.Next.TheVariants.{Steps}
use Rattle.savearea.proofs.Laws.Next.{plain_resulted}
use Rattle.parts.specs.Parts.{loaded_from}
use Rattle.parts.proofs.Laws.Counters.{hands_back, hands_fault}
use Rattle.parts.proofs.load_from.Goals as goal

pub returns-then-size-at-clause-loaded : goal.returns-then-size-at-clause-loaded
unfolding loaded_from in_segment
returns-then-size-at-clause-loaded g c =
    let over = rw (c.from-width.ensures, c.BYTES.ensures) at c.if-size-at.true in
    rw (c.fault.ensures, ← c.get_register-at.ensures, lt-leb _ _ over)

pub returns-then-size-at-clause-hands : goal.returns-then-size-at-clause-hands
returns-then-size-at-clause-hands g c =
    let p = c.requires in
    rw c.fault.ensures (hands_fault _ _ p.parts_inside.0 _ _ p.counter_and_registers.0)

pub put_result-requires : goal.put_result-requires
put_result-requires g c =
    let p = c.requires in
    (rw add-sub_cancel_left p.counter_and_registers.0, search rules, p.counter_and_registers.1)

pub returns-clause-loaded : goal.returns-clause-loaded
unfolding loaded_from in_segment
returns-clause-loaded g c =
    let fits = rw (c.from-width.ensures, c.BYTES.ensures) at c.if-size-at.false in
    rw (
      c.put_result.ensures.0,
      add-sub_cancel_left,
      ← c.get_register-at.ensures,
      le-leb _ _ fits,
      c.read-x.ensures,
      add-sub_cancel_left,
    )

pub returns-clause-hands : goal.returns-clause-hands
returns-clause-hands g c =
    let e = c.put_result.ensures in
    let long = rw add-sub_cancel_left at c.put_result.auto.s in
    rw add-sub_cancel_left
    (hands_back _ _ c.requires.parts_inside.0 _ long (Steps _)
    (e.1, rw (e.0, add-sub_cancel_left) (plain_resulted _ _ _ c.requires.counter_and_registers.1)))
