-- What the count is to a tick: one that fetches opcode 15 puts it into a register, and no other looks at it.
use Prim.Native.Nat.{ℕ, ◌+◌, ◌≤◌, ◌<◌}
use native.Mathlib.Omega.{arith}
use mathlib.Core.Path.{◌≡◌, refl, sym, ◌∙◌, ap}
use mathlib.Core.Bool.{true, false}
use Rattle.std.specs.Prelude.{Option, Some, None}
use mathlib.Core.List.{List}
use lib.Dec.{ltb}
use borrow.Author.Tests.{lt-ltb, le-ltb, ltb-false}
use Rattle.policy.specs.Limits.{Limits}
use Rattle.policy.specs.View.{View}
use Rattle.policy.specs.Tables.{view_of}
use Rattle.policy.specs.Lawful.{Lawful}
use Rattle.policy.proofs.Accepted.{sound_lawful}
use Rattle.machine.specs.declared.Instr.{Instr}
use Rattle.machine.specs.declared.Instr.TheVariants.{Halt, Set, Add, Sub, And, Xor, Shift, Load, Store, Jump, Wait, Listen, Back, LoadWord, StoreWord, Count}
use Rattle.machine.specs.Bytes.{part}
use Rattle.machine.specs.Save.{counter}
use Rattle.machine.specs.Decode.{last_opcode, operand_fits, operands_fit, instruction_of, decode_of, fetched}
use Rattle.machine.specs.Local.{resulted, acts_on, takes_interrupt, is_ready}
use Rattle.machine.specs.Tick.{Seat, Sees, looks, sees, executes, obeys, steps, effect, applied, tick_of}
use Rattle.machine.specs.Machine.{State, Stands, current, seat, next}
use Rattle.machine.specs.Fetches.{save_bytes, saved_of, code_of, Fetches}
use Rattle.machine.specs.Stamps.{operand_a, Stamps, RegisterAlone}
use Rattle.machine.proofs.Laws.Opcodes.{opcode_kept}
use Rattle.machine.proofs.Laws.Tests.{instruction_decides}
use Rattle.machine.proofs.Laws.Places.{slot_there}
use Rattle.machine.proofs.Laws.Written.{register_resulted, counter_resulted, part_put}
use Rattle.machine.proofs.Touch.{length-resulted}
use Rattle.machine.proofs.OneTick.{save_fits, saved_length}
use Rattle.machine.proofs.Older.{fetches_obeys}

decode_count : (a b c : ℕ) → a < 8 → decode_of last_opcode 15 a b c ≡ Some (Count a)
unfolding decode_of operands_fit operand_fits instruction_of
decode_count a b c h = rw (lt-ltb a 8 h)

-- The save bytes after such a tick.
stamped_bytes : (limits : Limits) (v : View) → Lawful limits v → (x : State) → Stands limits v x → Fetches v x 15 → operand_a v x < 8
    → save_bytes v (current v x) (next v x) ≡ resulted (saved_of v x) (operand_a v x) x.place.count
unfolding next tick_of obeys executes acts_on
stamped_bytes limits v w x st f few =
    let p = current v x in
    let there = w.owner_there x.place.slot (slot_there v x.place st.placed) in
    let from = v.base (v.save p) in
    let b = resulted (saved_of v x) (operand_a v x) x.place.count in
    let does = fetches_obeys v x 15 f ∙ ap (obeys (seat v p) (saved_of v x) (looks (seat v p) x.memory) x.place.count) (decode_count (operand_a v x) _ _ few) in
    ap (λ e. part (applied (seat v p) from e x.memory) from 44) does
    ∙ part_put x.memory from 44 b (save_fits limits v w p there x.memory st.whole)
    (length-resulted (saved_of v x) (operand_a v x) x.place.count ∙ saved_length limits v w p there x.memory st.whole)

pub stamps : Stamps
stamps limits tables sound x st small f few =
    let v = view_of tables in
    let w = sound_lawful limits tables sound in
    let p = current v x in
    let there = w.owner_there x.place.slot (slot_there v x.place st.placed) in
    let bytes = stamped_bytes limits v w x st f few in
    let long = saved_length limits v w p there x.memory st.whole in
    record {
      holds_count = rw bytes (register_resulted (saved_of v x) (operand_a v x) x.place.count long few small);
      gains_four = rw bytes
          (counter_resulted (saved_of v x) (operand_a v x) x.place.count long few
          (omega (arith, f.inside, w.size_most (v.code p) (w.code_there p there))));
    }

decode_no_register : (a b c : ℕ) → 8 ≤ a → decode_of last_opcode 15 a b c ≡ None
unfolding decode_of operands_fit operand_fits
decode_no_register a b c h = rw (le-ltb a 8 h)

pub register_alone : RegisterAlone
unfolding next tick_of obeys
register_alone v x f many =
    let p = current v x in
    let does = fetches_obeys v x 15 f ∙ ap (obeys (seat v p) (saved_of v x) (looks (seat v p) x.memory) x.place.count) (decode_no_register (operand_a v x) _ _ many) in
    ap (λ e. applied (seat v p) (v.base (v.save p)) e x.memory) does

-- What is decoded is no count, if the opcode is not 15; so it does the same at each count.
obeys_unread : (S : Seat) (s : List ℕ) (look : ℕ → List ℕ) (k k' : ℕ) (d : Option Instr) → ((a : ℕ) → d ≡ Some (Count a) → ⊥) → obeys S s look k d ≡ obeys S s look k' d
unfolding obeys executes acts_on
obeys_unread S s look k k' None free = refl
obeys_unread S s look k k' (Some Halt) free = refl
obeys_unread S s look k k' (Some (Set a n)) free = refl
obeys_unread S s look k k' (Some (Add a b c)) free = refl
obeys_unread S s look k k' (Some (Sub a b c)) free = refl
obeys_unread S s look k k' (Some (And a b c)) free = refl
obeys_unread S s look k k' (Some (Xor a b c)) free = refl
obeys_unread S s look k k' (Some (Shift a b c)) free = refl
obeys_unread S s look k k' (Some (Load a b c)) free = refl
obeys_unread S s look k k' (Some (Store a b c)) free = refl
obeys_unread S s look k k' (Some (Jump a n)) free = refl
obeys_unread S s look k k' (Some Wait) free = refl
obeys_unread S s look k k' (Some (Listen a n)) free = refl
obeys_unread S s look k k' (Some Back) free = refl
obeys_unread S s look k k' (Some (LoadWord a b c)) free = refl
obeys_unread S s look k k' (Some (StoreWord a b c)) free = refl
obeys_unread S s look k k' (Some (Count a)) free = absurd (free a refl)

module _ (v : View) (x : State) (free : Fetches v x 15 → ⊥) where
  abbrev p : ℕ
  p = current v x

  abbrev here : ℕ → Sees
  here k = sees (seat v p) (v.code p) (v.save p) k x.memory

  abbrev room : ℕ
  room = v.size (v.code p)

  abbrev instruction : Option Instr
  instruction = fetched last_opcode (code_of v x) (counter (saved_of v x))

  no_count : takes_interrupt (saved_of v x) ≡ false → is_ready (saved_of v x) ≡ true → ltb room (counter (saved_of v x) + 4) ≡ false
      → (a : ℕ) → instruction ≡ Some (Count a) → ⊥
  unfolding fetched
  no_count e f g a d =
      free (record { no_interrupt = e; ready = f; inside = ltb-false _ _ g; at_counter = sym (opcode_kept last_opcode _ _ _ _ (Count a) d) })

  effect_unread : (k k' : ℕ) → effect (seat v p) room (here k) ≡ effect (seat v p) room (here k')
  unfolding effect steps
  effect_unread k k' =
      instruction_decides (saved_of v x) room _ _
      (λ e f g. obeys_unread (seat v p) (saved_of v x) (looks (seat v p) x.memory) k k' instruction (no_count e f g))

  -- So memory after the tick is that after a tick at any other count.
  pub tick_unread : (k : ℕ) → (next v x).memory ≡ tick_of (seat v p) (v.code p) (v.save p) k x.memory
  unfolding next tick_of
  tick_unread k = ap (λ e. applied (seat v p) (v.base (v.save p)) e x.memory) (effect_unread _ k)
