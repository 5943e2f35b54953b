-- What decodes to none faults; a load and a store are the definition's own cases; every other instruction changes the save bytes alone, and
-- these are lent.
use native.Mathlib.Nat.{add-sub_cancel_left}
use Rattle.machine.specs.Tick.{executes, obeys}
use Rattle.parts.proofs.Laws.Counters.{hands_back, hands_fault}
use Rattle.tick.proofs.Laws.Alone.{IsAlone, acts_alone}
use Rattle.tick.proofs.seat.Seat.obey.Goals as goal

pub returns-in_default-clause-obeyed : goal.returns-in_default-clause-obeyed
unfolding obeys
returns-in_default-clause-obeyed c = rw c.in_default.is c.fault.ensures

pub returns-in_default-clause-hands : goal.returns-in_default-clause-hands
returns-in_default-clause-hands c =
    rw c.fault.ensures
    (hands_fault c.args.memory.now c.args.self.now.from (rw c.requires.whole c.args.self.now.save_inside) _ _ c.requires.counter_and_registers.0)

pub returns-in-Load-clause-obeyed : goal.returns-in-Load-clause-obeyed
unfolding obeys executes
returns-in-Load-clause-obeyed c = rw (c.in-Some.is, c.in-Load.is) c.load.ensures.loaded

pub returns-in-Store-clause-obeyed : goal.returns-in-Store-clause-obeyed
unfolding obeys executes
returns-in-Store-clause-obeyed c = rw (c.in-Some.is, c.in-Store.is) c.store.ensures.stored

pub returns-in-LoadWord-clause-obeyed : goal.returns-in-LoadWord-clause-obeyed
unfolding obeys executes
returns-in-LoadWord-clause-obeyed c = rw (c.in-Some.is, c.in-LoadWord.is) c.load-in-LoadWord.ensures.loaded

pub returns-in-StoreWord-clause-obeyed : goal.returns-in-StoreWord-clause-obeyed
unfolding obeys executes
returns-in-StoreWord-clause-obeyed c = rw (c.in-Some.is, c.in-StoreWord.is) c.store-in-StoreWord.ensures.stored

pub returns-in_default-i : goal.returns-in_default-i
unfolding obeys
returns-in_default-i c =
    let d = c.in_default-i in
    let other : IsAlone c.in-Some.i =
    record { no_load = d.not-Load; no_store = d.not-Store; no_load_word = d.not-LoadWord; no_store_word = d.not-StoreWord } in
    let long = rw add-sub_cancel_left at c.act.auto.s in
    record {
      obeyed = rw (c.in-Some.is, c.act.ensures.0, add-sub_cancel_left, acts_alone);
      hands = rw add-sub_cancel_left
          (hands_back c.args.memory.now c.args.self.now.from (rw c.requires.whole c.args.self.now.save_inside) _ long _ (rw add-sub_cancel_left at c.act.ensures.1));
    }
