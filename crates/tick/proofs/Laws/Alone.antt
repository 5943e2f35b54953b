-- An instruction that is no load and no store changes the save bytes alone: the definition's clause for its kind says so.
use Prim.Native.Nat.{ℕ}
use mathlib.Core.Path.{◌≡◌, refl}
use mathlib.Core.List.{List}
use Rattle.machine.specs.declared.Instr.{Instr}
use Rattle.machine.specs.declared.Instr.TheVariants.{Halt, Set, Add, Sub, And, Xor, Shift, Load, Store, Jump, Wait, Listen, Back, LoadWord, StoreWord, Count}
use Rattle.machine.specs.Local.{acts_on}
use Rattle.machine.specs.Tick.{Seat, saves, executes}

-- Neither a load nor a store, as the last arm of a match has it.
pub record IsAlone (i : Instr) : Type 0 where
  pub no_load : (a b c : ℕ) → i ≡ Load a b c → ⊥
  pub no_store : (a b c : ℕ) → i ≡ Store a b c → ⊥
  pub no_load_word : (a b c : ℕ) → i ≡ LoadWord a b c → ⊥
  pub no_store_word : (a b c : ℕ) → i ≡ StoreWord a b c → ⊥

pub acts_alone : (S : Seat) (save : List ℕ) (look : ℕ → List ℕ) (count : ℕ) (i : Instr)
    → IsAlone i → executes S save look count i ≡ saves (acts_on save count i)
unfolding executes
acts_alone S save look count Halt h = refl
acts_alone S save look count (Set a n) h = refl
acts_alone S save look count (Add a b c) h = refl
acts_alone S save look count (Sub a b c) h = refl
acts_alone S save look count (And a b c) h = refl
acts_alone S save look count (Xor a b c) h = refl
acts_alone S save look count (Shift a b c) h = refl
acts_alone S save look count (Load a b c) h = absurd (h.no_load a b c refl)
acts_alone S save look count (Store a b c) h = absurd (h.no_store a b c refl)
acts_alone S save look count (Jump a n) h = refl
acts_alone S save look count Wait h = refl
acts_alone S save look count (Listen a n) h = refl
acts_alone S save look count Back h = refl
acts_alone S save look count (LoadWord a b c) h = absurd (h.no_load_word a b c refl)
acts_alone S save look count (StoreWord a b c) h = absurd (h.no_store_word a b c refl)
acts_alone S save look count (Count a) h = refl
