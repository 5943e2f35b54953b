-- What the tests of a tick say, by cases on the answer.
use Prim.Native.Nat.{ℕ, ◌+◌, ◌<◌}
use mathlib.Core.Path.{◌≡◌, refl}
use mathlib.Core.Bool.{Bool, true, false, false≢true, not, ◌&&◌, cond}
use mathlib.Core.List.{List}
use native.Mathlib.Omega.{arith}
use lib.Dec.{ltb, eqb}
use borrow.Author.Tests.{ltb-true, eqb-false}
use Rattle.policy.proofs.Laws.Bools.{and_left, and_right}
use Rattle.machine.specs.declared.Fault.TheVariants.{CounterOver}
use Rattle.machine.specs.Save.{counter, in_handler, due}
use Rattle.machine.specs.Faults.{faults}
use Rattle.machine.specs.Local.{takes_interrupt, interrupted, is_ready}
use Rattle.machine.specs.Tick.{Seat, Effect, none, saves, reaches, applied}

pub reaches_there : (n : ℕ) (given : Bool) (c : ℕ) → reaches n given c ≡ true → c < n
unfolding reaches
reaches_there n given c e = ltb-true c n (and_left (ltb c n) given e)

pub reaches-given : (n : ℕ) (given : Bool) (c : ℕ) → reaches n given c ≡ true → given ≡ true
unfolding reaches
reaches-given n given c e = and_right (ltb c n) given e

some : (n : ℕ) (b : Bool) → not (eqb n 0) && b ≡ true → 0 < n
some n b e = go (eqb n 0) refl e
  where
    go : (t : Bool) → eqb n 0 ≡ t → not t && b ≡ true → 0 < n
    go true f g = absurd (false≢true g)
    go false f g =
        let d = eqb-false n 0 f in
        omega arith

-- An interrupt is taken only where some line is pended and enabled.
pub interrupts_due : (save : List ℕ) → takes_interrupt save ≡ true → 0 < due save
unfolding takes_interrupt
interrupts_due save e = some (due save) _ (and_right (not (in_handler save)) _ e)

-- An effect by cases, applied.
pub applied_cond : (S : Seat) (from : ℕ) (b : Bool) (e f : Effect) (m : List ℕ) → applied S from (cond b e f) m ≡ cond b (applied S from e m) (applied S from f m)
applied_cond S from true e f m = refl
applied_cond S from false e f m = refl

-- A property of both branches holds of the choice, and the branch may use its test.
pub cond_both {ℓ} : {A : Type ℓ} (Q : A → Type 0) (b : Bool) {x y : A} → (b ≡ true → Q x) → Q y → Q (cond b x y)
cond_both Q true f g = f refl
cond_both Q false f g = g

-- The effect of a tick by its three tests, with what the instruction does: two that do the same where an instruction runs are the same.
module _ (s : List ℕ) (room : ℕ) where
  abbrev chosen : Bool → Bool → Bool → Effect → Effect
  chosen i r o e = cond i (saves (interrupted s)) (cond r (cond o (saves (faults s CounterOver)) e) none)

  pub instruction_decides : (e e' : Effect) → (takes_interrupt s ≡ false → is_ready s ≡ true → ltb room (counter s + 4) ≡ false → e ≡ e')
      → chosen (takes_interrupt s) (is_ready s) (ltb room (counter s + 4)) e ≡ chosen (takes_interrupt s) (is_ready s) (ltb room (counter s + 4)) e'
  instruction_decides e e' same = go (takes_interrupt s) refl (is_ready s) refl (ltb room (counter s + 4)) refl
    where
      go : (i : Bool) → takes_interrupt s ≡ i → (r : Bool) → is_ready s ≡ r → (o : Bool) → ltb room (counter s + 4) ≡ o → chosen i r o e ≡ chosen i r o e'
      go true f r g o h = refl
      go false f false g o h = refl
      go false f true g true h = refl
      go false f true g false h = same f g h
