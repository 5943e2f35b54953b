-- Both registers are read first, the save bytes are put and then the bytes, as in `stored_to`. Bytes beside the save bytes leave these as they were
-- put, and so lines, handler and state; else, and after a fault, the next tick asks.
use Rattle.std.proofs.Common.{sym, ◌∙◌, rules}
use native.Mathlib.Nat.{add-sub_cancel_left}
use borrow.Author.Tests.{le-leb, lt-leb}
use Rattle.machine.specs.Bytes.{digits}
use Rattle.machine.specs.Tick.{in_segment}
use Rattle.machine.proofs.Laws.Numbers.{length_digits}
use Rattle.parts.specs.Parts.{stored_to}
use Rattle.parts.proofs.Laws.Counters.{counter_beside, plain_beside, hands_fault}
use Rattle.parts.proofs.store_to.Goals as goal

pub advance-next-requires : goal.advance-next-requires
advance-next-requires g c =
    let p = c.requires in
    (rw add-sub_cancel_left p.counter_and_registers.0, search rules)

pub after_store-requires-clause-put_beside : goal.after_store-requires-clause-put_beside
after_store-requires-clause-put_beside g c = λ beside.
    c.advance-next.ensures.1
    ∙ rw (c.store_at.ensures, c.advance-next.ensures.0, add-sub_cancel_left)
    (sym (counter_beside _ _ c.requires.parts_inside.0 _ (digits g.W.Width.BYTES _) (rw length_digits (rw (c.from-width.ensures, c.BYTES.ensures) at beside))))

pub returns-then-at-width-clause-stored : goal.returns-then-at-width-clause-stored
unfolding stored_to in_segment
returns-then-at-width-clause-stored g c =
    let fits = rw (c.from-width.ensures, c.BYTES.ensures) at c.if-at-width.true in
    rw (
      c.store_at.ensures,
      c.advance-next.ensures.0,
      add-sub_cancel_left,
      c.get_register-x.ensures,
      ← c.get_register-at.ensures,
      le-leb _ _ fits,
    )

pub returns-then-at-width-clause-hands : goal.returns-then-at-width-clause-hands
returns-then-at-width-clause-hands g c =
    c.after_store.ensures _ (λ beside. rw (c.store_at.ensures, c.advance-next.ensures.0, add-sub_cancel_left)
    (plain_beside _ _ c.requires.parts_inside.0 _ (digits g.W.Width.BYTES _) (rw length_digits (rw (c.from-width.ensures, c.BYTES.ensures) at beside))))

pub returns-else-at-width-clause-stored : goal.returns-else-at-width-clause-stored
unfolding stored_to in_segment
returns-else-at-width-clause-stored g c =
    let over = rw (c.from-width.ensures, c.BYTES.ensures) at c.if-at-width.false in
    rw (c.fault.ensures, ← c.get_register-at.ensures, lt-leb _ _ over)

pub returns-else-at-width-clause-hands : goal.returns-else-at-width-clause-hands
returns-else-at-width-clause-hands g c =
    let p = c.requires in
    rw c.fault.ensures (hands_fault _ _ p.parts_inside.0 _ _ p.counter_and_registers.0)
