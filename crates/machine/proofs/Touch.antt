-- Law B: the effect gives save bytes of their size, and writes only into a segment with a w line, inside it. The one law that goes by the kind
-- of instruction.
use Prim.Native.Nat.{ℕ, ◌+◌, ◌≤◌}
use native.Mathlib.Omega.{arith}
use mathlib.Core.Path.{◌≡◌, ◌∙◌}
use mathlib.Core.Bool.{true}
use Rattle.std.specs.Prelude.{Option, Some, None}
use mathlib.Core.List.{List}
use lib.Dec.{ltb, eqb}
use lib.ListN.{length, set, length-set}
use borrow.Author.Tests.{leb-true}
use Rattle.machine.specs.declared.Instr.{Instr}
use Rattle.machine.specs.declared.Instr.TheVariants.{Halt, Set, Add, Sub, And, Xor, Shift, Load, Store, Jump, Wait, Listen, Back, LoadWord, StoreWord, Count}
use Rattle.machine.specs.declared.Fault.{Fault}
use Rattle.machine.specs.declared.Fault.TheVariants.{CounterOver, BadInstruction, NoRight, OffsetOver, WrongHandler}
use Rattle.octets.specs.Numbers.{half, with_half, with_word}
use Rattle.machine.specs.Save.{register, counter, in_handler}
use Rattle.machine.specs.Faults.{faults}
use Rattle.machine.specs.Decode.{fetched}
use Rattle.machine.specs.Local.{advanced, resulted, jumps, waits, comes_back, acts_on, takes_interrupt, entered, interrupted, is_ready}
use Rattle.machine.specs.Tick.{Seat, Sees, Effect, none, saves, stores, in_segment, may_load, may_store, loads, stores_bytes, executes, obeys, steps, effect}
use Rattle.machine.proofs.Laws.Tests.{cond_both}
use Rattle.machine.proofs.Laws.Numbers.{length_digits}

abbrev Long : List ℕ → Type 0
Long bytes = length bytes ≡ 44

-- What a tick may touch.
abbrev pub Touches : Seat → Effect → Type 0
Touches S none = Unit
Touches S (saves bytes) = Long bytes
Touches S (stores bytes s at written) = Long bytes × (may_store S s ≡ true) × (at + length written ≤ S.size s)

length-half : (s : List ℕ) (at n : ℕ) → length (with_half s at n) ≡ length s
unfolding with_half
length-half s at n = simp length-set

length_put : (s : List ℕ) (i n : ℕ) → length (set s i n) ≡ length s
length_put s i n = length-set s i n

length-advanced : (s : List ℕ) → length (advanced s) ≡ length s
unfolding advanced with_half
length-advanced s = simp length-set

pub length-resulted : (s : List ℕ) (r n : ℕ) → length (resulted s r n) ≡ length s
unfolding resulted advanced with_half with_word
length-resulted s r n = simp length-set

length-faults : (s : List ℕ) (f : Fault) → length (faults s f) ≡ length s
unfolding faults
length-faults s f = simp length-set

length-interrupted : (s : List ℕ) → length (interrupted s) ≡ length s
unfolding interrupted entered with_half with_word
length-interrupted s = simp length-set

module _ (S : Seat) where
  loads_long : (width : ℕ) (s : List ℕ) (look : ℕ → List ℕ) (a b c : ℕ) → Long s → Long (loads S width s look a b c)
  unfolding loads
  loads_long width s look a b c h =
      cond_both Long (may_load S c)
      (λ _. cond_both Long (in_segment width (register s b) (S.size c)) (λ _. length-resulted s a _ ∙ h) (length-faults s OffsetOver ∙ h))
      (length-faults s NoRight ∙ h)

  stores_touches : (width : ℕ) (s : List ℕ) (a b c : ℕ) → Long s → Touches S (stores_bytes S width s a b c)
  unfolding stores_bytes in_segment
  stores_touches width s a b c h =
      cond_both (Touches S) (may_store S c)
      (λ w. cond_both (Touches S) (in_segment width (register s b) (S.size c))
      (λ l. (length-advanced s ∙ h, w, omega (arith, leb-true _ (S.size c) l, length_digits width (register s a))))
      (length-faults s OffsetOver ∙ h))
      (length-faults s NoRight ∙ h)

  acts_long : (s : List ℕ) (count : ℕ) (i : Instr) → Long s → Long (acts_on s count i)
  unfolding acts_on jumps waits comes_back
  acts_long s count Halt h = length_put s 34 1 ∙ h
  acts_long s count (Set a n) h = length-resulted s a n ∙ h
  acts_long s count (Add a b c) h = length-resulted s a _ ∙ h
  acts_long s count (Sub a b c) h = length-resulted s a _ ∙ h
  acts_long s count (And a b c) h = length-resulted s a _ ∙ h
  acts_long s count (Xor a b c) h = length-resulted s a _ ∙ h
  acts_long s count (Shift a b c) h = length-resulted s a _ ∙ h
  acts_long s count (Load a b c) h = h
  acts_long s count (Store a b c) h = h
  acts_long s count (LoadWord a b c) h = h
  acts_long s count (StoreWord a b c) h = h
  acts_long s count (Count a) h = length-resulted s a count ∙ h
  acts_long s count (Jump a n) h =
      cond_both Long (eqb (register s a) 0) (λ _. length-advanced s ∙ h) (length-half s 32 n ∙ h)
  acts_long s count Wait h =
      cond_both Long (in_handler s) (λ _. length-faults s WrongHandler ∙ h) (length_put (advanced s) 34 3 ∙ length-advanced s ∙ h)
  acts_long s count (Listen a n) h = length-advanced _ ∙ length-half _ 40 n ∙ length_put s 37 a ∙ h
  acts_long s count Back h =
      cond_both Long (in_handler s)
      (λ _. length_put (with_half s 32 (half s 38)) 42 0 ∙ length-half s 32 (half s 38) ∙ h)
      (length-faults s WrongHandler ∙ h)

  executes_touches : (s : List ℕ) (look : ℕ → List ℕ) (count : ℕ) (i : Instr) → Long s → Touches S (executes S s look count i)
  unfolding executes
  executes_touches s look count Halt h = acts_long s count Halt h
  executes_touches s look count (Set a n) h = acts_long s count (Set a n) h
  executes_touches s look count (Add a b c) h = acts_long s count (Add a b c) h
  executes_touches s look count (Sub a b c) h = acts_long s count (Sub a b c) h
  executes_touches s look count (And a b c) h = acts_long s count (And a b c) h
  executes_touches s look count (Xor a b c) h = acts_long s count (Xor a b c) h
  executes_touches s look count (Shift a b c) h = acts_long s count (Shift a b c) h
  executes_touches s look count (Load a b c) h = loads_long 1 s look a b c h
  executes_touches s look count (Store a b c) h = stores_touches 1 s a b c h
  executes_touches s look count (LoadWord a b c) h = loads_long 4 s look a b c h
  executes_touches s look count (StoreWord a b c) h = stores_touches 4 s a b c h
  executes_touches s look count (Count a) h = acts_long s count (Count a) h
  executes_touches s look count (Jump a n) h = acts_long s count (Jump a n) h
  executes_touches s look count Wait h = acts_long s count Wait h
  executes_touches s look count (Listen a n) h = acts_long s count (Listen a n) h
  executes_touches s look count Back h = acts_long s count Back h

  obeys_touches : (s : List ℕ) (look : ℕ → List ℕ) (count : ℕ) (d : Option Instr) → Long s → Touches S (obeys S s look count d)
  unfolding obeys
  obeys_touches s look count (Some i) h = executes_touches s look count i h
  obeys_touches s look count None h = length-faults s BadInstruction ∙ h

  pub effect_touches : (code_size : ℕ) (x : Sees) → Long x.saved → Touches S (effect S code_size x)
  unfolding effect steps
  effect_touches code_size x h =
      cond_both (Touches S) (takes_interrupt x.saved) (λ _. length-interrupted x.saved ∙ h)
      (cond_both (Touches S) (is_ready x.saved)
      (λ _. cond_both (Touches S) (ltb code_size (counter x.saved + 4))
      (λ _. length-faults x.saved CounterOver ∙ h)
      (obeys_touches x.saved x.look x.count (fetched S.opcodes x.code (counter x.saved)) h))
      tt)
