-- 01, "A tick": "An instruction is four bytes: opcode, a, b, c. The number n is b + 256 × c. A decoded instruction is
-- one of thirteen kinds, each with its operands. The table of opcodes says for each which operand bytes must be
-- registers, below 8; other bytes may have all values." 02, S-2, adds two kinds, opcodes 13 and 14, "operands as for 7
-- and 8", and S-8 a sixteenth, opcode 15: "a must be a register".
use Rattle.std.specs.Prelude.{ℕ, ◌+◌, ◌*◌, Bool, ◌&&◌, ◌||◌, cond, List, [], ◌∷◌, get_or, ltb, eqb, Option, Some, None}
use Rattle.std.specs.Int.Bits.{bit_and}
use Rattle.machine.specs.declared.Instr.{Instr}
use Rattle.machine.specs.declared.Instr.TheVariants.{Halt, Set, Add, Sub, And, Xor, Shift, Load, Store, Jump}
use Rattle.machine.specs.declared.Instr.TheVariants.{Wait, Listen, Back, LoadWord, StoreWord, Count}

-- The highest opcode of this machine, of document 01's, "Every opcode above 12 is fault 2", and of the machine before S-8.
abbrev pub last_opcode : ℕ
last_opcode = 15

abbrev pub last_opcode_of_01 : ℕ
last_opcode_of_01 = 12

abbrev pub last_opcode_before_s8 : ℕ
last_opcode_before_s8 = 14

-- The opcode of each kind.
abbrev pub opcode_of : Instr → ℕ
opcode_of Halt = 0
opcode_of (Set a n) = 1
opcode_of (Add a b c) = 2
opcode_of (Sub a b c) = 3
opcode_of (And a b c) = 4
opcode_of (Xor a b c) = 5
opcode_of (Shift a b c) = 6
opcode_of (Load a b c) = 7
opcode_of (Store a b c) = 8
opcode_of (Jump a n) = 9
opcode_of Wait = 10
opcode_of (Listen a n) = 11
opcode_of Back = 12
opcode_of (LoadWord a b c) = 13
opcode_of (StoreWord a b c) = 14
opcode_of (Count a) = 15

-- The table's column "registers", by opcode: 1 for a, 2 for b, 4 for c.
abbrev pub register_masks : List ℕ
register_masks = 0 ∷ 1 ∷ 7 ∷ 7 ∷ 7 ∷ 7 ∷ 7 ∷ 3 ∷ 3 ∷ 1 ∷ 0 ∷ 0 ∷ 0 ∷ 3 ∷ 3 ∷ 1 ∷ []

-- "must be registers, below 8"
unfoldable pub operand_fits : ℕ → ℕ → Bool
operand_fits bit operand = eqb bit 0 || ltb operand 8

unfoldable pub operands_fit : ℕ → ℕ → ℕ → ℕ → Bool
operands_fit mask a b c =
    operand_fits (bit_and mask 1) a && (operand_fits (bit_and mask 2) b && operand_fits (bit_and mask 4) c)

-- The instruction of an opcode, with the operands that it has, on a machine whose highest opcode is `last`: every opcode
-- above it is fault 2.
unfoldable pub instruction_of : ℕ → ℕ → ℕ → ℕ → ℕ → Option Instr
instruction_of last op a b c =
    cond (ltb last op) None
    (cond (eqb op 0) (Some Halt)
    (cond (eqb op 1) (Some (Set a (b + 256 * c)))
    (cond (eqb op 2) (Some (Add a b c))
    (cond (eqb op 3) (Some (Sub a b c))
    (cond (eqb op 4) (Some (And a b c))
    (cond (eqb op 5) (Some (Xor a b c))
    (cond (eqb op 6) (Some (Shift a b c))
    (cond (eqb op 7) (Some (Load a b c))
    (cond (eqb op 8) (Some (Store a b c))
    (cond (eqb op 9) (Some (Jump a (b + 256 * c)))
    (cond (eqb op 10) (Some Wait)
    (cond (eqb op 11) (Some (Listen a (b + 256 * c)))
    (cond (eqb op 12) (Some Back)
    (cond (eqb op 13) (Some (LoadWord a b c))
    (cond (eqb op 14) (Some (StoreWord a b c))
    (cond (eqb op 15) (Some (Count a)) None))))))))))))))))

-- Four bytes: an instruction, or a bad opcode or register. Past the table no operand must be a register.
unfoldable pub decode_of : ℕ → ℕ → ℕ → ℕ → ℕ → Option Instr
decode_of last op a b c = cond (operands_fit (get_or register_masks op 0) a b c) (instruction_of last op a b c) None

-- The instruction at a place of the code.
unfoldable pub fetched : ℕ → List ℕ → ℕ → Option Instr
fetched last code at =
    decode_of last (get_or code at 0) (get_or code (at + 1) 0) (get_or code (at + 2) 0) (get_or code (at + 3) 0)
