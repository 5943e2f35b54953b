-- Each turn goes one slot back: behind it its partition was silent until the slot that it has next, and it is that slot for those before.
use Prim.Native.Nat.{◌-◌}
use mathlib.Core.Path.{◌≡◌, refl, ap, subst, ◌∙◌}
use native.Mathlib.Omega.{arith}
use lib.ListN.{length, length-set}
use Rattle.policy.specs.Below.{list_below}
use Rattle.policy.specs.Limits.{single}
use Rattle.policy.specs.Record.{tables_of}
use Rattle.policy.specs.Schedule.{silence}
use Rattle.policy.specs.Tables.{view_of}
use Rattle.policy.proofs.Lawful.{lawful}
use Rattle.policy.proofs.Laws.Lists.{list_long}
use Rattle.policy.proofs.Laws.Zeros.{zero_at}
use Rattle.sheet.specs.Slots.{first_begin}
use Rattle.sheet.proofs.Laws.Longest.{Walked, walked_none, walked_more, walked_all, far_below}
use Rattle.sheet.proofs.Laws.Answer.{owner_few, round_few}
use Rattle.sheet.proofs.longest.longest_silences.Goals as goal

pub loop-slot-init : goal.loop-slot-init
loop-slot-init c =
    let t = tables_of c.args.policy.now in
    record {
      longest_long = refl;
      ahead_long = ap length c.requires.ahead ∙ list_long (first_begin (view_of t)) 8;
      walked = rw (c.from-slot.ensures, c.requires.ticks)
          (walked_none (view_of t) 8 _ _ (lawful single t c.requires.sound).some_slot c.requires.ahead (zero_at 8));
    }

pub bounds-policy-slot : goal.bounds-policy-slot
bounds-policy-slot c = omega (arith, (lawful single (tables_of c.args.policy.now) c.requires.sound).few_slots)

pub bounds-longest-owner : goal.bounds-longest-owner
bounds-longest-owner c =
    rw c.from-owner.ensures (owner_few single (tables_of c.args.policy.now) c.requires.sound (c.loop-slot.slot - 1) (omega arith))

pub bounds-ahead-owner : goal.bounds-ahead-owner
bounds-ahead-owner c =
    rw c.from-owner.ensures (owner_few single (tables_of c.args.policy.now) c.requires.sound (c.loop-slot.slot - 1) (omega arith))

pub bounds-longest-owner-in-loop-slot : goal.bounds-longest-owner-in-loop-slot
bounds-longest-owner-in-loop-slot c =
    rw c.from-owner.ensures (owner_few single (tables_of c.args.policy.now) c.requires.sound (c.loop-slot.slot - 1) (omega arith))

pub bounds-policy-slot-in-loop-slot : goal.bounds-policy-slot-in-loop-slot
bounds-policy-slot-in-loop-slot c = omega (arith, (lawful single (tables_of c.args.policy.now) c.requires.sound).few_slots)

pub bounds-ahead-owner-in-loop-slot : goal.bounds-ahead-owner-in-loop-slot
bounds-ahead-owner-in-loop-slot c =
    rw c.from-owner.ensures (owner_few single (tables_of c.args.policy.now) c.requires.sound (c.loop-slot.slot - 1) (omega arith))

pub loop-slot-preserved : goal.loop-slot-preserved
loop-slot-preserved c =
    let t = tables_of c.args.policy.now in
    let i = c.loop-slot.invariant in
    let k = c.loop-slot.slot - 1 in
    let there = owner_few single t c.requires.sound k (omega arith) in
    record {
      longest_long = rw length-set i.longest_long;
      ahead_long = rw length-set i.ahead_long;
      walked = rw (c.from-owner.ensures, c.from-far.ensures)
          (walked_more (view_of t) k c.loop-slot.far _ c.loop-slot.ahead c.loop-slot.longest (omega arith) (rw i.ahead_long there) (rw i.longest_long there)
          c.loop-slot.slot (omega arith) i.walked (rw c.from-owner.ensures at c.max.ensures));
    }

pub overflow_add-far : goal.overflow_add-far
overflow_add-far c =
    let t = tables_of c.args.policy.now in
    omega (
      arith,
      c.from-far.ensures,
      far_below (view_of t) (c.loop-slot.slot - 1) c.loop-slot.slot (omega arith) c.loop-slot.invariant.walked,
      round_few single t c.requires.sound,
    )

pub returns : goal.returns
returns c =
    let t = tables_of c.args.policy.now in
    let v = view_of t in
    let i = c.loop-slot.invariant in
    let none : c.loop-slot.slot ≡ 0 = omega arith in
    subst (λ n. c.loop-slot.longest ≡ list_below n (silence v)) i.longest_long
    (walked_all v c.loop-slot.far c.loop-slot.ahead c.loop-slot.longest (lawful single t c.requires.sound).some_slot
    (subst (λ k. Walked v k c.loop-slot.far c.loop-slot.ahead c.loop-slot.longest) none i.walked))
