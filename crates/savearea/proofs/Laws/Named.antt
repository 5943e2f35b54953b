-- What is decoded names registers alone where it must: an opcode's mask was tested before the instruction is made.
use Prim.Native.Nat.{ℕ, ◌<◌}
use mathlib.Core.Path.{◌≡◌, sym, ◌∙◌, ap}
use mathlib.Core.Bool.{true, ◌&&◌, cond}
use Rattle.std.specs.Prelude.{Option, Some, None}
use mathlib.Core.List.{List}
use lib.Dec.{ltb, eqb}
use lib.ListN.{get_or}
use borrow.Author.Tests.{eqb-true, ltb-true}
use Rattle.policy.proofs.Laws.Bools.{and_left, and_right}
use Rattle.machine.specs.declared.Instr.{Instr}
use Rattle.machine.specs.Decode.{last_opcode, register_masks, operand_fits, operands_fit, instruction_of, decode_of, fetched}
use Rattle.machine.proofs.Laws.Tests.{cond_both}
use Rattle.savearea.specs.Named.{Named, NamedIn}

-- As a record, so that the instruction is not looked into while the tests are gone through.
record Has (d : Option Instr) : Type 0 where
  is : NamedIn d

none : Has None
none = record { is = tt }

module _ (op a b c : ℕ) (fit : operands_fit (get_or register_masks op 0) a b c ≡ true) where
  test : (k : ℕ) (i : Instr) {d : Option Instr} → (operands_fit (get_or register_masks k 0) a b c ≡ true → Named i) → Has d → Has (cond (eqb op k) (Some i) d)
  test k i names h =
      cond_both Has (eqb op k)
      (λ e. record { is = names (ap (λ n. operands_fit (get_or register_masks n 0) a b c) (sym (eqb-true op k e)) ∙ fit) })
      h

  one : operands_fit 1 a b c ≡ true → a < 8
  unfolding operands_fit operand_fits
  one e = ltb-true a 8 (and_left (ltb a 8) true e)

  two : operands_fit 3 a b c ≡ true → (a < 8) × (b < 8)
  unfolding operands_fit operand_fits
  two e =
      let rest = and_right (ltb a 8) (ltb b 8 && true) e in
      (ltb-true a 8 (and_left (ltb a 8) (ltb b 8 && true) e), ltb-true b 8 (and_left (ltb b 8) true rest))

  three : operands_fit 7 a b c ≡ true → (a < 8) × (b < 8) × (c < 8)
  unfolding operands_fit operand_fits
  three e =
      let rest = and_right (ltb a 8) (ltb b 8 && ltb c 8) e in (
        ltb-true a 8 (and_left (ltb a 8) (ltb b 8 && ltb c 8) e),
        ltb-true b 8 (and_left (ltb b 8) (ltb c 8) rest),
        ltb-true c 8 (and_right (ltb b 8) (ltb c 8) rest),
      )

  instruction_named : Has (instruction_of last_opcode op a b c)
  unfolding instruction_of
  instruction_named =
      cond_both Has (ltb last_opcode op) (λ _. none)
      (test 0 _ (λ _. tt)
      (test 1 _ one
      (test 2 _ three
      (test 3 _ three
      (test 4 _ three
      (test 5 _ three
      (test 6 _ three
      (test 7 _ two
      (test 8 _ two
      (test 9 _ one
      (test 10 _ (λ _. tt)
      (test 11 _ (λ _. tt)
      (test 12 _ (λ _. tt)
      (test 13 _ two
      (test 14 _ two
      (test 15 _ one none))))))))))))))))

pub fetched_named : (code : List ℕ) (at : ℕ) → NamedIn (fetched last_opcode code at)
unfolding fetched decode_of
fetched_named code at =
    (cond_both Has (operands_fit (get_or register_masks (get_or code at 0) 0) _ _ _) (λ e. instruction_named _ _ _ _ e) none).is
