-- 01, "A tick": one tick is an effect, worked out from what the current partition sees and from nothing else, and put
-- into memory.
use Rattle.std.specs.Prelude.{ℕ, ◌+◌, Bool, ◌&&◌, cond, List, [], leb, ltb, Option, Some, None}
use Rattle.std.proofs.lemmas.List.Edits.{sets}
use Rattle.machine.specs.declared.Instr.{Instr}
use Rattle.machine.specs.declared.Instr.TheVariants.{Halt, Set, Add, Sub, And, Xor, Shift, Load, Store, Jump}
use Rattle.machine.specs.declared.Instr.TheVariants.{Wait, Listen, Back, LoadWord, StoreWord, Count}
use Rattle.machine.specs.declared.Fault.TheVariants.{CounterOver, BadInstruction, NoRight, OffsetOver}
use Rattle.machine.specs.Bytes.{part, with_part, little, digits}
use Rattle.machine.specs.Layout.{layout}
use Rattle.machine.specs.Save.{register, counter}
use Rattle.machine.specs.Faults.{faults}
use Rattle.machine.specs.Decode.{fetched}
use Rattle.machine.specs.Local.{advanced, resulted, acts_on, takes_interrupt, interrupted, is_ready}

-- What a tick asks of the machine and of the policy: the highest opcode; the segments, and on which of them a line gives
-- the current partition r or w.
pub record Seat : Type 0 where
  pub opcodes : ℕ
  pub segments : ℕ
  pub base : ℕ → ℕ
  pub size : ℕ → ℕ
  pub reads : ℕ → Bool
  pub writes : ℕ → Bool

-- What the current partition sees: its save bytes, its code bytes, by segment what a load sees, and the count of ticks
-- since Start, which alone lies in no segment.
pub record Sees : Type 0 where
  pub saved : List ℕ
  pub code : List ℕ
  pub look : ℕ → List ℕ
  pub count : ℕ

-- What a tick does: nothing; new save bytes; new save bytes, and bytes from an offset of a segment on.
pub data Effect : Type 0 where
  none : Effect
  saves : List ℕ → Effect
  stores : List ℕ → ℕ → ℕ → List ℕ → Effect

-- Whether segment c is there, and a line gives the right. "(save segments never have one)"
unfoldable pub reaches : ℕ → Bool → ℕ → Bool
reaches segments given c = ltb c segments && given

-- Whether so many bytes from an offset on lie inside a segment of this size. 02, S-2: "All four must lie inside the
-- segment; a large rb must not come round to a small offset": the sum is one of numbers, which have no bound.
unfoldable pub in_segment : ℕ → ℕ → ℕ → Bool
in_segment width offset size = leb (offset + width) size

module _ (S : Seat) where
  -- The bytes of a segment.
  abbrev pub segment_of : ℕ → List ℕ → List ℕ
  segment_of s memory = part memory (S.base s) (S.size s)

  abbrev pub may_load : ℕ → Bool
  may_load c = reaches S.segments (S.reads c) c

  abbrev pub may_store : ℕ → Bool
  may_store c = reaches S.segments (S.writes c) c

  -- What a load sees of a segment: its bytes where a line gives r, else nothing.
  unfoldable pub looks : List ℕ → ℕ → List ℕ
  looks memory c = cond (may_load c) (segment_of c memory) []

  abbrev pub sees : ℕ → ℕ → ℕ → List ℕ → Sees
  sees code save count memory =
      record {
        saved = part memory (S.base save) layout.size;
        code = segment_of code memory;
        look = looks memory;
        count = count;
      }

  -- 7 load, of width 1: "ra = byte at offset rb of segment c"; 02, S-2: 13, of width 4, "loads [..] four bytes,
  -- little-endian, at offsets rb to rb + 3 of segment c"; faults 3, then 4
  unfoldable pub loads : ℕ → List ℕ → (ℕ → List ℕ) → ℕ → ℕ → ℕ → List ℕ
  loads width save look a b c =
      cond (may_load c)
      (cond (in_segment width (register save b) (S.size c))
      (resulted save a (little width (look c) (register save b)))
      (faults save OffsetOver))
      (faults save NoRight)

  -- 8 store, of width 1: "that byte = ra modulo 256"; 02, S-2: 14, of width 4, "stores four bytes, little-endian", at
  -- those offsets; faults 3, then 4
  unfoldable pub stores_bytes : ℕ → List ℕ → ℕ → ℕ → ℕ → Effect
  stores_bytes width save a b c =
      cond (may_store c)
      (cond (in_segment width (register save b) (S.size c))
      (stores (advanced save) c (register save b) (digits width (register save a)))
      (saves (faults save OffsetOver)))
      (saves (faults save NoRight))

  -- One instruction: its own effect for a load and a store, else new save bytes.
  unfoldable pub executes : List ℕ → (ℕ → List ℕ) → ℕ → Instr → Effect
  executes save look count Halt = saves (acts_on save count Halt)
  executes save look count (Set a n) = saves (acts_on save count (Set a n))
  executes save look count (Add a b c) = saves (acts_on save count (Add a b c))
  executes save look count (Sub a b c) = saves (acts_on save count (Sub a b c))
  executes save look count (And a b c) = saves (acts_on save count (And a b c))
  executes save look count (Xor a b c) = saves (acts_on save count (Xor a b c))
  executes save look count (Shift a b c) = saves (acts_on save count (Shift a b c))
  executes save look count (Load a b c) = saves (loads 1 save look a b c)
  executes save look count (Store a b c) = stores_bytes 1 save a b c
  executes save look count (Jump a n) = saves (acts_on save count (Jump a n))
  executes save look count Wait = saves (acts_on save count Wait)
  executes save look count (Listen a n) = saves (acts_on save count (Listen a n))
  executes save look count Back = saves (acts_on save count Back)
  executes save look count (LoadWord a b c) = saves (loads 4 save look a b c)
  executes save look count (StoreWord a b c) = stores_bytes 4 save a b c
  executes save look count (Count a) = saves (acts_on save count (Count a))

  -- "2 bad opcode or register"
  unfoldable pub obeys : List ℕ → (ℕ → List ℕ) → ℕ → Option Instr → Effect
  obeys save look count (Some i) = executes save look count i
  obeys save look count None = saves (faults save BadInstruction)

  -- The instruction at the counter. "1 counter + 4 is over the code length"
  unfoldable pub steps : ℕ → Sees → Effect
  steps codeSize x =
      cond (ltb codeSize (counter x.saved + 4))
      (saves (faults x.saved CounterOver))
      (obeys x.saved x.look x.count (fetched S.opcodes x.code (counter x.saved)))

  -- "the tick takes an interrupt .. Else, with state 0, one instruction runs. Else memory is unchanged."
  unfoldable pub effect : ℕ → Sees → Effect
  effect codeSize x =
      cond (takes_interrupt x.saved) (saves (interrupted x.saved))
      (cond (is_ready x.saved) (steps codeSize x) none)

  -- The effect on memory, with the save segment's bytes from `from` on.
  abbrev pub applied : ℕ → Effect → List ℕ → List ℕ
  applied from none memory = memory
  applied from (saves bytes) memory = with_part memory from layout.size bytes
  applied from (stores bytes s at written) memory =
      sets (with_part memory from layout.size bytes) (S.base s + at) written

  -- Memory after a tick of the partition with this code and this save segment, at this count.
  unfoldable pub tick_of : ℕ → ℕ → ℕ → List ℕ → List ℕ
  tick_of code save count memory = applied (S.base save) (effect (S.size code) (sees code save count memory)) memory
