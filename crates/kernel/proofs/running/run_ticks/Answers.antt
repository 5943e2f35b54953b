-- Each turn is a stretch of the machine's ticks, as many as the slot has left or the Run, or as many ticks of a partition that is not able, which do
-- nothing; a state that stands has the slot, its partition and the segments in range.
use Rattle.std.proofs.Common.{◌≡◌, ℕ, ◌+◌, ◌-◌, ◌%◌, ◌<◌, ◌≤◌, min, length, get_or, sym, ◌∙◌, arith, rules}
use Rattle.policy.specs.Tables.{view_of}
use Rattle.policy.specs.Record.{tables_of}
use Rattle.machine.specs.Machine.{seat}
use Rattle.tick.proofs.Laws.Reach.{save_inside}
use Rattle.kernel.specs.Stretch.{ticked_of}
use Rattle.kernel.proofs.Laws.Ticks.{idle_ticks}
use Rattle.kernel.proofs.Laws.Reached.{owner_of, reached_none, slot_in_lem, used_in, many_few, owner_below, tick_fits}
use Rattle.kernel.proofs.Laws.Turns.{place_by, turned_first, room_in, ends_in, ends_slot}
use Rattle.kernel.proofs.running.run_ticks.Goals as goal
use Rattle.kernel.proofs.running.run_ticks.Goals.{then-is_able, else-is_able}

-- The count of the next tick, from the last one's and the ticks left.
counted : (c n left : ℕ) → left ≤ n → n < 4294967296 → ((c + n) % 4294967296 + (4294967296 - left)) % 4294967296 ≡ (c + (n - left)) % 4294967296
counted c n left most fits = omega arith

pub turn_at-turn-requires : goal.turn_at-turn-requires
turn_at-turn-requires c =
    omega (arith, used_in _ _ c.requires.sound _ _ _ _ (reached_none _ _ _ _ c.requires.stands))

pub loop-left-init : goal.loop-left-init
loop-left-init c = turned_first _ _ c.requires.sound _ _ _ _ c.requires.stands (search (rules, c.well_formed)) c.turn_at-turn.ensures

pub bounds-policy-owner : goal.bounds-policy-owner
bounds-policy-owner c = rw c.from-owner.ensures (owner_below _ _ c.requires.sound _ _ _ _ c.loop-left.invariant.reached)

-- Where the save segment begins is in the record.
pub bounds-policy-save : goal.bounds-policy-save
bounds-policy-save c =
    let g = c.well_formed in
    let p = tick_fits _ _ c.requires.sound _ _ _ _ c.loop-left.invariant.reached (omega arith) (search (rules, g)) (search (rules, g)) in
    let long : length c.args.policy.base ≡ 32 = search (rules, g) in
    rw (c.from-save.ensures, c.from-owner.ensures) (omega (arith, p.save_there, p.every.base_there, long))

pub is_able-requires : goal.is_able-requires
is_able-requires c =
    let g = c.well_formed in
    rw (c.from.ensures, c.from-save.ensures, c.from-owner.ensures)
    (save_inside
    (tick_fits _ _ c.requires.sound _ _ _ _ c.loop-left.invariant.reached (omega arith) (search (rules, g)) (search (rules, g))))

pub stretch-requires-clause-owner_there : goal.stretch-requires-clause-owner_there
stretch-requires-clause-owner_there c = rw c.from-owner.ensures (owner_below _ _ c.requires.sound _ _ _ _ c.loop-left.invariant.reached)

pub stretch-requires-clause-seated : goal.stretch-requires-clause-seated
stretch-requires-clause-seated c =
    let g = c.well_formed in
    rw c.from-owner.ensures
    (tick_fits _ _ c.requires.sound _ _ _ _ c.loop-left.invariant.reached (omega arith) (search (rules, g)) (search (rules, g)))

pub stretch-requires-clause-few : goal.stretch-requires-clause-few
stretch-requires-clause-few c =
    let inv = c.loop-left.invariant in
    let in_room = room_in _ _ c.requires.sound _ _ _ _ _ _ inv c.min.result (omega (arith, c.min.ensures)) in
    omega (arith, many_few _ _ c.requires.sound _ _ _ _ inv.reached _ in_room)

pub next_turn-turn-requires : goal.next_turn-turn-requires
next_turn-turn-requires c = slot_in_lem _ _ c.requires.sound _ _ _ _ c.loop-left.invariant.reached

-- Memory after as many ticks as the slot has left or the Run: what the stretch leaves, or what it was where the partition is not able.
pub returns-then-left-room : goal.returns-then-left-room
returns-then-left-room c =
    let t = tables_of c.args.policy in
    let l = c.loop-left in
    let here = place_by t c.args.place.count c.args.n l.turn l.left in
    let p = owner_of t here in
    let save = get_or t.partitions.save p 0 in
    let few = c.if-left-room.true in
    let e : l.left ≡ min l.turn.left l.left = omega (arith, few) in
    let count = counted c.args.place.count c.args.n l.left l.invariant.most (search (rules, c.ranges)) in
    let done : c.if-is_able.memory ≡ ticked_of c.args.policy p here.count l.left l.memory =
    elim c.if-is_able.branch [
      | then-is_able w ↦ w.memory-is ∙ (rw (count, c.from-owner.ensures, w.min.ensures ∙ sym e) at w.stretch.ensures)
      | else-is_able w ↦
          w.memory-is
          ∙ sym (idle_ticks (seat (view_of t) p) _ save _ l.left l.memory
          (rw (← c.from-owner.ensures, ← c.from-save.ensures, ← c.from.ensures) (sym c.is_able.ensures ∙ w.if-is_able.false)))
    ] in
    rw c.place_with.ensures (ends_in _ _ c.requires.sound _ _ _ _ _ _ l.invariant few _ done).state

pub loop-left-preserved : goal.loop-left-preserved
loop-left-preserved c =
    let t = tables_of c.args.policy in
    let l = c.loop-left in
    let here = place_by t c.args.place.count c.args.n l.turn l.left in
    let p = owner_of t here in
    let save = get_or t.partitions.save p 0 in
    let few = c.if-left-room.false in
    let e : l.turn.left ≡ min l.turn.left l.left = omega (arith, few) in
    let count = counted c.args.place.count c.args.n l.left l.invariant.most (search (rules, c.ranges)) in
    let done : c.if-is_able.memory ≡ ticked_of c.args.policy p here.count l.turn.left l.memory =
    elim c.if-is_able.branch [
      | then-is_able w ↦ w.memory-is ∙ (rw (count, c.from-owner.ensures, w.min.ensures ∙ sym e) at w.stretch.ensures)
      | else-is_able w ↦
          w.memory-is
          ∙ sym (idle_ticks (seat (view_of t) p) _ save _ l.turn.left l.memory
          (rw (← c.from-owner.ensures, ← c.from-save.ensures, ← c.from.ensures) (sym c.is_able.ensures ∙ w.if-is_able.false)))
    ] in
    ends_slot _ _ c.requires.sound _ _ _ _ _ _ l.invariant few _ done _ c.next_turn-turn.ensures
