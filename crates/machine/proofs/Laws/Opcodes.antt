-- A decoded instruction has the opcode that it was decoded from, and an opcode above the highest is none.
use Prim.Native.Nat.{ℕ, ◌≤◌, ◌<◌}
use native.Mathlib.Omega.{arith}
use mathlib.Core.Path.{◌≡◌, refl, sym, ◌∙◌, ap}
use mathlib.Core.Bool.{Bool, true, false, false≢true, cond}
use Rattle.std.specs.Prelude.{Option, Some, None}
use lib.Dec.{ltb, eqb}
use lib.ListN.{get_or}
use borrow.Author.Tests.{eqb-true, ltb-true, ltb-false, lt-ltb}
use Rattle.machine.specs.declared.Instr.{Instr}
use Rattle.machine.specs.Decode.{last_opcode_of_01, last_opcode_before_s8, opcode_of, register_masks, operands_fit, instruction_of, decode_of}
use Rattle.machine.proofs.Laws.Tests.{cond_both}

-- What is decoded has this opcode, if it is an instruction.
abbrev OpcodeIs : ℕ → Option Instr → Type 0
OpcodeIs op (Some i) = opcode_of i ≡ op
OpcodeIs op None = Unit {0}

record Has (op : ℕ) (d : Option Instr) : Type 0 where
  is : OpcodeIs op d

none : {op : ℕ} → Has op None
none = record { is = tt }

test : (op k : ℕ) (i : Instr) {d : Option Instr} → (opcode_of i ≡ k) → Has op d → Has op (cond (eqb op k) (Some i) d)
test op k i e h = cond_both (Has op) (eqb op k) (λ f. record { is = e ∙ sym (eqb-true op k f) }) h

instruction_has : (last op a b c : ℕ) → Has op (instruction_of last op a b c)
unfolding instruction_of
instruction_has last op a b c =
    cond_both (Has op) (ltb last op) (λ _. none)
    (test op 0 _ refl
    (test op 1 _ refl
    (test op 2 _ refl
    (test op 3 _ refl
    (test op 4 _ refl
    (test op 5 _ refl
    (test op 6 _ refl
    (test op 7 _ refl
    (test op 8 _ refl
    (test op 9 _ refl
    (test op 10 _ refl
    (test op 11 _ refl
    (test op 12 _ refl
    (test op 13 _ refl
    (test op 14 _ refl
    (test op 15 _ refl none))))))))))))))))

pub opcode_kept : (last op a b c : ℕ) (i : Instr) → decode_of last op a b c ≡ Some i → opcode_of i ≡ op
unfolding decode_of
opcode_kept last op a b c i e =
    let h = cond_both (Has op) (operands_fit (get_or register_masks op 0) a b c) (λ _. instruction_has last op a b c) none in
    (rw e at h).is

cond_same : {A : Type 0} (t : Bool) (x : A) → cond t x x ≡ x
cond_same true x = refl
cond_same false x = refl

pub instruction_above : (last op a b c : ℕ) → last < op → instruction_of last op a b c ≡ None
unfolding instruction_of
instruction_above last op a b c h = rw (lt-ltb last op h)

-- "Every opcode above 12 is fault 2", of each highest opcode.
pub decode_above : (last op a b c : ℕ) → last < op → decode_of last op a b c ≡ None
unfolding decode_of
decode_above last op a b c h = rw (instruction_above last op a b c h) (cond_same (operands_fit (get_or register_masks op 0) a b c) None)

-- A decoded instruction's opcode is in the list.
pub opcode_listed : (last op a b c : ℕ) (i : Instr) → decode_of last op a b c ≡ Some i → opcode_of i ≤ last
opcode_listed last op a b c i e = rw (opcode_kept last op a b c i e) (go (ltb last op) refl)
  where
    go : (t : Bool) → ltb last op ≡ t → op ≤ last
    go true f =
        let none = decode_above last op a b c (ltb-true last op f) in
        cc
    go false f = ltb-false last op f

-- 02, S-2, of 13 and 14: "Both opcodes were fault 2 until now."
pub were_faults : (op a b c : ℕ) → 13 ≤ op → decode_of last_opcode_of_01 op a b c ≡ None
were_faults op a b c h = decode_above last_opcode_of_01 op a b c (omega arith)

-- 02, S-8, of 15: no opcode before it.
pub was_fault : (a b c : ℕ) → decode_of last_opcode_before_s8 15 a b c ≡ None
was_fault a b c = decode_above last_opcode_before_s8 15 a b c (omega arith)
