-- 01, "A tick": "which operand bytes must be registers, below 8". What a decoded instruction is known to name.
use Rattle.std.specs.Prelude.{◌<◌, Option, Some, None}
use Rattle.machine.specs.declared.Instr.{Instr}
use Rattle.machine.specs.declared.Instr.TheVariants.{Halt, Set, Add, Sub, And, Xor, Shift, Load, Store, Jump}
use Rattle.machine.specs.declared.Instr.TheVariants.{Wait, Listen, Back, LoadWord, StoreWord, Count}

-- Every register that an instruction names is one of the eight.
abbrev pub Named : Instr → Type 0
Named Halt = Unit {0}
Named (Set a n) = a < 8
Named (Add a b c) = (a < 8) × (b < 8) × (c < 8)
Named (Sub a b c) = (a < 8) × (b < 8) × (c < 8)
Named (And a b c) = (a < 8) × (b < 8) × (c < 8)
Named (Xor a b c) = (a < 8) × (b < 8) × (c < 8)
Named (Shift a b c) = (a < 8) × (b < 8) × (c < 8)
Named (Load a b c) = (a < 8) × (b < 8)
Named (Store a b c) = (a < 8) × (b < 8)
Named (Jump a n) = a < 8
Named Wait = Unit {0}
Named (Listen a n) = Unit {0}
Named Back = Unit {0}
Named (LoadWord a b c) = (a < 8) × (b < 8)
Named (StoreWord a b c) = (a < 8) × (b < 8)
Named (Count a) = a < 8

-- Of four bytes, if they are an instruction.
abbrev pub NamedIn : Option Instr → Type 0
NamedIn (Some i) = Named i
NamedIn None = Unit {0}
