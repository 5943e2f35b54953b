-- A tick that fetches no opcode above `last` and up to this machine's highest is a tick of the machine whose highest opcode is `last`: the two differ in
-- what they decode, and in nothing else.
use Prim.Native.Nat.{ℕ, ◌+◌, ◌≤◌, ◌<◌}
use native.Mathlib.Omega.{arith}
use mathlib.Core.Path.{◌≡◌, refl, sym, ◌∙◌, ap}
use mathlib.Core.Bool.{Bool, true, false}
use Rattle.std.specs.Prelude.{Option, Some, None}
use mathlib.Core.List.{List}
use lib.Dec.{ltb}
use lib.ListN.{get_or}
use borrow.Author.Tests.{ltb-true, ltb-false, le-ltb}
use Rattle.policy.specs.View.{View}
use Rattle.machine.specs.declared.Instr.{Instr}
use Rattle.machine.specs.declared.Instr.TheVariants.{Halt, Set, Add, Sub, And, Xor, Shift, Load, Store, Jump, Wait, Listen, Back, LoadWord, StoreWord, Count}
use Rattle.machine.specs.Save.{counter}
use Rattle.machine.specs.Decode.{last_opcode, instruction_of, decode_of, fetched}
use Rattle.machine.specs.Place.{moved}
use Rattle.machine.specs.Local.{takes_interrupt, is_ready}
use Rattle.machine.specs.Tick.{Effect, none, saves, stores, Sees, looks, sees, loads, stores_bytes, executes, obeys, steps, effect, applied, tick_of}
use Rattle.machine.specs.Machine.{State, current, seat_up_to, next_up_to, seat, next}
use Rattle.machine.specs.Fetches.{saved_of, code_of, Fetches}
use Rattle.machine.proofs.Laws.Opcodes.{decode_above}
use Rattle.machine.proofs.Laws.Tests.{instruction_decides}

-- Both machines decode an opcode that is not above `last`, and one above both lists, alike.
decode_kept : (last op a b c : ℕ) → op ≤ last → last ≤ last_opcode → decode_of last_opcode op a b c ≡ decode_of last op a b c
unfolding decode_of instruction_of
decode_kept last op a b c h k = rw (le-ltb last_opcode op (omega arith), le-ltb last op h)

decode_alike : (last op a b c : ℕ) → last ≤ last_opcode → (last < op → op ≤ last_opcode → ⊥) → decode_of last_opcode op a b c ≡ decode_of last op a b c
decode_alike last op a b c k free = go (ltb last op) refl (ltb last_opcode op) refl
  where
    go : (s : Bool) → ltb last op ≡ s → (t : Bool) → ltb last_opcode op ≡ t → decode_of last_opcode op a b c ≡ decode_of last op a b c
    go false e t f = decode_kept last op a b c (ltb-false last op e) k
    go true e false f = absurd (free (ltb-true last op e) (ltb-false last_opcode op f))
    go true e true f =
        decode_above last_opcode op a b c (ltb-true last_opcode op f) ∙ sym (decode_above last op a b c (ltb-true last op e))

module _ (v : View) (last p : ℕ) where
  obeys_alike : (s : List ℕ) (look : ℕ → List ℕ) (k : ℕ) (d : Option Instr) → obeys (seat_up_to v last_opcode p) s look k d ≡ obeys (seat_up_to v last p) s look k d
  unfolding obeys executes loads stores_bytes
  obeys_alike s look k None = refl
  obeys_alike s look k (Some Halt) = refl
  obeys_alike s look k (Some (Set a n)) = refl
  obeys_alike s look k (Some (Add a b c)) = refl
  obeys_alike s look k (Some (Sub a b c)) = refl
  obeys_alike s look k (Some (And a b c)) = refl
  obeys_alike s look k (Some (Xor a b c)) = refl
  obeys_alike s look k (Some (Shift a b c)) = refl
  obeys_alike s look k (Some (Load a b c)) = refl
  obeys_alike s look k (Some (Store a b c)) = refl
  obeys_alike s look k (Some (Jump a n)) = refl
  obeys_alike s look k (Some Wait) = refl
  obeys_alike s look k (Some (Listen a n)) = refl
  obeys_alike s look k (Some Back) = refl
  obeys_alike s look k (Some (LoadWord a b c)) = refl
  obeys_alike s look k (Some (StoreWord a b c)) = refl
  obeys_alike s look k (Some (Count a)) = refl

  applied_alike : (from : ℕ) (e : Effect) (m : List ℕ) → applied (seat_up_to v last_opcode p) from e m ≡ applied (seat_up_to v last p) from e m
  applied_alike from none m = refl
  applied_alike from (saves bytes) m = refl
  applied_alike from (stores bytes s at written) m = refl

module _ (v : View) (last : ℕ) (k : last ≤ last_opcode) (x : State) (none_between : (op : ℕ) → last < op → op ≤ last_opcode → Fetches v x op → ⊥) where
  abbrev p : ℕ
  p = current v x

  abbrev here : ℕ → Sees
  here k = sees (seat_up_to v last p) (v.code p) (v.save p) k x.memory

  abbrev room : ℕ
  room = v.size (v.code p)

  abbrev at : ℕ
  at = counter (saved_of v x)

  fetched_alike : takes_interrupt (saved_of v x) ≡ false → is_ready (saved_of v x) ≡ true → ltb room (at + 4) ≡ false
      → fetched last_opcode (code_of v x) at ≡ fetched last (code_of v x) at
  unfolding fetched
  fetched_alike e f g =
      decode_alike last _ _ _ _ k
      (λ above below. none_between _ above below (record { no_interrupt = e; ready = f; inside = ltb-false _ _ g; at_counter = refl }))

  effect_alike : (c : ℕ) → effect (seat_up_to v last_opcode p) room (here c) ≡ effect (seat_up_to v last p) room (here c)
  unfolding effect steps
  effect_alike c =
      instruction_decides (saved_of v x) room _ _
      (λ e f g. obeys_alike v last p (saved_of v x) (here c).look c _
      ∙ ap (obeys (seat_up_to v last p) (saved_of v x) (here c).look c) (fetched_alike e f g))

  pub older_tick : next v x ≡ next_up_to v last x
  unfolding next tick_of looks
  older_tick =
      ap (λ m. record { memory = m; place = moved v x.place })
      (applied_alike v last p (v.base (v.save p)) (effect (seat_up_to v last_opcode p) room (here _)) x.memory
      ∙ ap (λ e. applied (seat_up_to v last p) (v.base (v.save p)) e x.memory) (effect_alike _))

-- A tick that fetches an opcode does what is decoded from it and the three bytes behind it, and nothing else: `Fetches` says no more than that.
pub fetches_obeys : (v : View) (x : State) (op : ℕ) → Fetches v x op →
    let p = current v x in
    let here = sees (seat v p) (v.code p) (v.save p) x.place.count x.memory in
    let at = counter here.saved in
    effect (seat v p) (v.size (v.code p)) here
    ≡ obeys (seat v p) here.saved here.look here.count (decode_of last_opcode op (get_or here.code (at + 1) 0) (get_or here.code (at + 2) 0) (get_or here.code (at + 3) 0))
unfolding effect steps fetched
fetches_obeys v x op f = rw (f.no_interrupt, f.ready, le-ltb _ _ f.inside, f.at_counter)
