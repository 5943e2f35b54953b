-- 01, "A tick": what an interrupt and each instruction but a load and a store do to the save segment's bytes, and to
-- nothing else.
use Rattle.std.specs.Prelude.{ℕ, ◌+◌, ◌-◌, ◌/◌, ◌%◌, ◌^◌, Bool, not, ◌&&◌, ◌||◌, cond, List, set, eqb}
use Rattle.std.specs.Int.Bits.{bit_and, bit_xor}
use Rattle.std.specs.Int.Count.{count_trailing_zeros}
use Rattle.machine.specs.declared.Instr.{Instr}
use Rattle.machine.specs.declared.Instr.TheVariants.{Halt, Set, Add, Sub, And, Xor, Shift, Load, Store, Jump}
use Rattle.machine.specs.declared.Instr.TheVariants.{Wait, Listen, Back, LoadWord, StoreWord, Count}
use Rattle.machine.specs.declared.Fault.TheVariants.{WrongHandler}
use Rattle.octets.specs.Numbers.{half, with_half}
use Rattle.machine.specs.Layout.{layout, ready, halted, waiting}
use Rattle.machine.specs.Save.{register, with_register, counter, with_counter, state, with_state, pended}
use Rattle.machine.specs.Save.{in_handler, due}
use Rattle.machine.specs.Faults.{faults}

-- "Unless said otherwise the counter gains 4."
unfoldable pub advanced : List ℕ → List ℕ
advanced save = with_counter save (counter save + 4)

-- Register a takes a number, and the counter gains 4.
unfoldable pub resulted : List ℕ → ℕ → ℕ → List ℕ
resulted save a n = advanced (with_register save a n)

-- 9 jump: "counter = n if ra is not 0"
unfoldable pub jumps : List ℕ → ℕ → ℕ → List ℕ
jumps save a n = cond (eqb (register save a) 0) (advanced save) (with_counter save n)

-- 10 wait: "state 3"; fault 5: "wait inside a handler"
unfoldable pub waits : List ℕ → List ℕ
waits save = cond (in_handler save) (faults save WrongHandler) (with_state (advanced save) waiting)

-- 12 back: "counter = return place, in-handler 0"; fault 5: "back outside one"
unfoldable pub comes_back : List ℕ → List ℕ
comes_back save =
    cond (in_handler save)
    (set (with_counter save (half save layout.return)) layout.in_handler 0)
    (faults save WrongHandler)

-- What an instruction does to the save bytes alone, by its kind; one of them asks for the count.
unfoldable pub acts_on : List ℕ → ℕ → Instr → List ℕ
-- 0 halt: "state 1, counter stays"
acts_on save count Halt = with_state save halted
-- 1 set: "ra = n"
acts_on save count (Set a n) = resulted save a n
-- 2 add, 3 sub: "ra = rb + rc for 2, rb − rc for 3, modulo 4,294,967,296"
acts_on save count (Add a b c) = resulted save a ((register save b + register save c) % 4294967296)
acts_on save count (Sub a b c) = resulted save a ((register save b + (4294967296 - register save c)) % 4294967296)
-- 4 and, 5 xor: "ra = rb and rc, rb xor rc, bit by bit"
acts_on save count (And a b c) = resulted save a (bit_and (register save b) (register save c))
acts_on save count (Xor a b c) = resulted save a (bit_xor (register save b) (register save c))
-- 6 shift: "ra = rb moved right by (rc modulo 32) bits, zeros in"
acts_on save count (Shift a b c) = resulted save a (register save b / 2 ^ (register save c % 32))
-- 7 load and 8 store, 13 load word and 14 store word see a segment: Tick.antt says what they do
acts_on save count (Load a b c) = save
acts_on save count (Store a b c) = save
acts_on save count (LoadWord a b c) = save
acts_on save count (StoreWord a b c) = save
-- 9 jump, 10 wait: above
acts_on save count (Jump a n) = jumps save a n
acts_on save count Wait = waits save
-- 11 listen: "enabled = a, handler place = n"
acts_on save count (Listen a n) = advanced (with_half (set save layout.enabled a) layout.handler n)
-- 12 back: above
acts_on save count Back = comes_back save
-- 02, S-8: "Opcode 15 sets ra to the count before its tick"
acts_on save count (Count a) = resulted save a count

-- "With state 0 or 3, in-handler 0, and a line that is pended and enabled, the tick takes an interrupt."
unfoldable pub takes_interrupt : List ℕ → Bool
takes_interrupt save =
    not (in_handler save) && (not (eqb (due save) 0) && (eqb (state save) ready || eqb (state save) waiting))

-- "the lowest-numbered line that is both pended and enabled"
abbrev pub lowest : ℕ → ℕ
lowest lines = count_trailing_zeros 8 lines

-- "its pended bit is cleared, r7 becomes the line number, the return place takes the program counter, the counter takes
-- the handler place, in-handler becomes 1, state 0"
unfoldable pub entered : List ℕ → ℕ → ℕ → ℕ → ℕ → List ℕ
entered save lines line from handler =
    with_state
    (set
    (with_counter
    (with_half (with_register (set save layout.pended lines) layout.line_register line) layout.return from)
    handler)
    layout.in_handler
    1)
    ready

-- That line is set among the pended ones, so to clear its bit is to take its worth away.
unfoldable pub interrupted : List ℕ → List ℕ
interrupted save =
    let line = lowest (due save) in
    entered save (pended save - 2 ^ line) line (counter save) (half save layout.handler)

-- Whether a tick would do something: the partition is ready, or can take an interrupt.
unfoldable pub is_ready : List ℕ → Bool
is_ready save = eqb (state save) ready

abbrev pub is_able : List ℕ → Bool
is_able save = takes_interrupt save || is_ready save
