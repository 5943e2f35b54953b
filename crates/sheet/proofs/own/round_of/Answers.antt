-- Each turn goes one slot back: its ticks are its partition's, and it is the slot that its partition has next.
use Prim.Native.Nat.{◌-◌}
use mathlib.Core.Path.{◌≡◌, refl, subst}
use native.Mathlib.Omega.{arith}
use lib.ListN.{length-set}
use Rattle.policy.specs.Below.{list_below}
use Rattle.policy.specs.Limits.{single}
use Rattle.policy.specs.Record.{tables_of}
use Rattle.policy.specs.Schedule.{booked, own_ticks}
use Rattle.policy.specs.Tables.{view_of}
use Rattle.policy.proofs.Lawful.{lawful}
use Rattle.policy.proofs.Laws.Zeros.{zero_at}
use Rattle.sheet.specs.Slots.{first_begin}
use Rattle.sheet.proofs.Laws.Walk.{Added, added_none, added_more, far_small, own_small, far_all, own_all, ahead_all}
use Rattle.sheet.proofs.Laws.Answer.{owner_few, round_few, own_few}
use Rattle.sheet.proofs.own.round_of.Goals as goal

pub loop-slot-init : goal.loop-slot-init
loop-slot-init c =
    record {
      own_long = refl;
      ahead_long = refl;
      added = rw c.from-slot.ensures (added_none (view_of (tables_of c.args.policy.now)) _ _ (zero_at 8) (zero_at 8));
    }

pub bounds-policy-slot : goal.bounds-policy-slot
bounds-policy-slot c = omega (arith, (lawful single (tables_of c.args.policy.now) c.requires.sound).few_slots)

pub bounds-policy-slot-in-loop-slot : goal.bounds-policy-slot-in-loop-slot
bounds-policy-slot-in-loop-slot c = omega (arith, (lawful single (tables_of c.args.policy.now) c.requires.sound).few_slots)

pub overflow_add-far : goal.overflow_add-far
overflow_add-far c =
    let t = tables_of c.args.policy.now in
    let i = c.loop-slot.invariant in
    let k = c.loop-slot.slot - 1 in
    let there = owner_few single t c.requires.sound k (omega arith) in
    let small =
    far_small (view_of t) k c.loop-slot.far c.loop-slot.own c.loop-slot.ahead (omega arith) (rw i.own_long there) (rw i.ahead_long there)
    c.loop-slot.slot (omega arith) i.added in
    omega (arith, c.from-ticks.ensures, small, round_few single t c.requires.sound)

pub bounds-own-owner : goal.bounds-own-owner
bounds-own-owner c =
    rw c.from-owner.ensures (owner_few single (tables_of c.args.policy.now) c.requires.sound (c.loop-slot.slot - 1) (omega arith))

pub overflow_add-own : goal.overflow_add-own
overflow_add-own c =
    let t = tables_of c.args.policy.now in
    let i = c.loop-slot.invariant in
    let k = c.loop-slot.slot - 1 in
    let there = owner_few single t c.requires.sound k (omega arith) in
    let small =
    own_small (view_of t) k c.loop-slot.far c.loop-slot.own c.loop-slot.ahead (omega arith) (rw i.own_long there) (rw i.ahead_long there)
    c.loop-slot.slot (omega arith) i.added in
    rw c.from-owner.ensures (omega (arith, c.from-ticks.ensures, small, own_few single t c.requires.sound (booked (view_of t) k)))

pub bounds-own-owner-in-loop-slot : goal.bounds-own-owner-in-loop-slot
bounds-own-owner-in-loop-slot c =
    rw c.from-owner.ensures (owner_few single (tables_of c.args.policy.now) c.requires.sound (c.loop-slot.slot - 1) (omega arith))

pub bounds-ahead-owner : goal.bounds-ahead-owner
bounds-ahead-owner c =
    rw c.from-owner.ensures (owner_few single (tables_of c.args.policy.now) c.requires.sound (c.loop-slot.slot - 1) (omega arith))

pub loop-slot-preserved : goal.loop-slot-preserved
loop-slot-preserved c =
    let t = tables_of c.args.policy.now in
    let i = c.loop-slot.invariant in
    let k = c.loop-slot.slot - 1 in
    let there = owner_few single t c.requires.sound k (omega arith) in
    record {
      own_long = rw length-set i.own_long;
      ahead_long = rw length-set i.ahead_long;
      added = rw (c.from-owner.ensures, c.from-ticks.ensures)
          (added_more (view_of t) k c.loop-slot.far c.loop-slot.own c.loop-slot.ahead (omega arith) (rw i.own_long there) (rw i.ahead_long there)
          c.loop-slot.slot (omega arith) i.added);
    }

pub returns : goal.returns
returns c =
    let v = view_of (tables_of c.args.policy.now) in
    let i = c.loop-slot.invariant in
    let none : c.loop-slot.slot ≡ 0 = omega arith in
    let h : Added v 0 c.loop-slot.far c.loop-slot.own c.loop-slot.ahead =
    subst (λ k. Added v k c.loop-slot.far c.loop-slot.own c.loop-slot.ahead) none i.added in
    record {
      own = subst (λ n. c.loop-slot.own ≡ list_below n (own_ticks v)) i.own_long (own_all v h);
      ahead = subst (λ n. c.loop-slot.ahead ≡ list_below n (first_begin v)) i.ahead_long
          (ahead_all v h (lawful single (tables_of c.args.policy.now) c.requires.sound).some_slot);
      ticks = far_all v h;
    }
