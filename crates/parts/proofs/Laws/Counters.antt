-- Save bytes that were put back into memory stand there, and so their counter and what they hand to the next tick; a fault leaves the counter.
use Prim.Native.Nat.{ℕ, ◌+◌, ◌≤◌}
use native.Mathlib.Omega.{arith}
use mathlib.Core.Path.{◌≡◌, sym, ◌∙◌, ap}
use mathlib.Core.Bool.{true}
use mathlib.Core.Logic.{inl, inr}
use mathlib.Core.List.{List}
use lib.Dec.{leb}
use lib.ListN.{length, length-set, length-take, length-drop}
use lib.Seq.{sets}
use borrow.Author.Tests.{leb-true}
use Rattle.machine.specs.declared.Fault.{Fault}
use Rattle.machine.specs.Save.{counter}
use Rattle.machine.specs.Faults.{faults}
use Rattle.machine.specs.Local.{advanced, interrupted, entered}
use Rattle.octets.specs.Numbers.{with_half, with_word}
use Rattle.machine.proofs.Laws.Parts.{part-sets_other}
use Rattle.machine.proofs.Laws.Written.{part_put}
use Rattle.policy.proofs.Laws.Bools.{or_cases}
use Rattle.savearea.specs.declared.step.Next.{Next}
use Rattle.savearea.specs.declared.step.Next.TheVariants.{Asks}
use Rattle.savearea.specs.Next.{Hands, is_plain}
use Rattle.savearea.proofs.Laws.Counters.{counter-faults}
use Rattle.savearea.proofs.Laws.Next.{plain_advanced, plain_interrupted}
use Rattle.parts.specs.Parts.{saved_at, with_saved, is_beside}

module _ (m : List ℕ) (from : ℕ) (fits : from + 44 ≤ length m) where
  saved_long : length (saved_at m from) ≡ 44
  saved_long = simp (length-take, length-drop) (omega arith)

  module _ (bytes : List ℕ) (long : length bytes ≡ length (saved_at m from)) where
    saved_back : saved_at (with_saved m from bytes) from ≡ bytes
    saved_back = part_put m from 44 bytes fits (long ∙ saved_long)

    counter_back : counter (saved_at (with_saved m from bytes) from) ≡ counter bytes
    counter_back = ap counter saved_back

    pub hands_back : (next : Next) → Hands next (saved_at m from) bytes → Hands next (saved_at m from) (saved_at (with_saved m from bytes) from)
    hands_back next h = rw saved_back h

  counter_fault : (f : Fault) → counter (saved_at (with_saved m from (faults (saved_at m from) f)) from) ≡ counter (saved_at m from)
  unfolding faults
  counter_fault f = counter_back (faults (saved_at m from) f) (simp length-set) ∙ counter-faults (saved_at m from) f

  pub hands_fault : (f : Fault) (pc : ℕ) → pc ≡ counter (saved_at m from)
      → Hands (Asks pc) (saved_at m from) (saved_at (with_saved m from (faults (saved_at m from) f)) from)
  hands_fault f pc e = e ∙ sym (counter_fault f)

  -- After an interrupt the next tick is plain.
  pub plain_taken : is_plain (saved_at (with_saved m from (interrupted (saved_at m from))) from) ≡ true
  unfolding interrupted entered with_half with_word
  plain_taken = rw (saved_back (interrupted (saved_at m from)) (simp length-set)) (plain_interrupted (saved_at m from) (rw saved_long (omega arith)))

  -- Bytes stored beside the save bytes leave these as they were put before.
  module _ (at : ℕ) (bytes : List ℕ) (beside : is_beside from at (length bytes) ≡ true) where
    saved_beside : saved_at (sets (with_saved m from (advanced (saved_at m from))) at bytes) from ≡ advanced (saved_at m from)
    unfolding is_beside advanced with_half
    saved_beside =
        part-sets_other from 44 at bytes (with_saved m from (advanced (saved_at m from)))
        (or_cases (leb (at + length bytes) from) (leb (from + 44) at) beside
        (λ e. inl (leb-true (at + length bytes) from e))
        (λ e. inr (leb-true (from + 44) at e)))
        ∙ saved_back (advanced (saved_at m from)) (simp length-set)

    pub counter_beside : counter (saved_at (sets (with_saved m from (advanced (saved_at m from))) at bytes) from) ≡ counter (advanced (saved_at m from))
    counter_beside = ap counter saved_beside

    pub plain_beside : is_plain (saved_at (sets (with_saved m from (advanced (saved_at m from))) at bytes) from) ≡ is_plain (saved_at m from)
    plain_beside = ap is_plain saved_beside ∙ plain_advanced (saved_at m from)
