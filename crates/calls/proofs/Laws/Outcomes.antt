-- What an operation that acts has passed: each test before a refusal failed, by cases on the tests.
use Prim.Native.Nat.{ℕ, ◌<◌}
use mathlib.Core.Path.{◌≡◌, refl}
use mathlib.Core.Bool.{Bool, true, false, cond, not}
use mathlib.Core.List.{List}
use lib.ListN.{length}
use Rattle.std.specs.Prelude.{Ok, Err, is_ok}
use lib.Dec.{leb, ltb, eqb}
use borrow.Author.Tests.{leb-false, eqb-true, not-false}
use Rattle.machine.specs.Machine.{State, Stands}
use Rattle.machine.specs.Place.{is_place}
use Rattle.calls.specs.Under.{Under}
use Rattle.calls.specs.declared.Refused.{Refused}
use Rattle.calls.specs.declared.Refused.TheVariants.{WrongMemory, Unsound, NoPartition, NoLine, NoPlace, TooManyTicks}
use Rattle.calls.specs.Outcomes.{Outcome, wrong_memory, unsound}
use Rattle.calls.specs.Start.{start_outcome}
use Rattle.calls.specs.Pend.{last_line, pend_outcome}
use Rattle.calls.specs.Run.{most_ticks_of_run, run_outcome}

pub is_ok_lem : (o : Outcome) → is_ok o ≡ true → o ≡ Ok tt
is_ok_lem (Ok acted) e = refl
is_ok_lem (Err refused) e = cc

-- A test that the answer Ok has passed, and the tests behind it.
left : (b : Bool) (refused : Refused) (rest : Outcome) → cond b (Err refused) rest ≡ Ok tt → b ≡ false
left true refused rest e = cc
left false refused rest e = refl

others : (b : Bool) (refused : Refused) (rest : Outcome) → cond b (Err refused) rest ≡ Ok tt → rest ≡ Ok tt
others true refused rest e = cc
others false refused rest e = e

-- Tests 9 and 10, and then others.
abbrev after_first : Bool → Bool → Outcome → Outcome
after_first a b rest = cond a (Err WrongMemory) (cond b (Err Unsound) rest)

-- What they make of an operation that tests on, by what they make of Start, which does not.
refused_first : (a b : Bool) (rest : Outcome) (why : Refused) → after_first a b (Ok tt) ≡ Err why → after_first a b rest ≡ Err why
refused_first true b rest why e = e
refused_first false true rest why e = e
refused_first false false rest why e = cc

passed_first : (a b : Bool) (rest : Outcome) → after_first a b (Ok tt) ≡ Ok tt → after_first a b rest ≡ rest
passed_first true b rest e = cc
passed_first false true rest e = cc
passed_first false false rest e = refl

module _ (u : Under) where
  pub pend_refused : (m : List ℕ) (p line : ℕ) (why : Refused) → start_outcome u m ≡ Err why → pend_outcome u m p line ≡ Err why
  unfolding start_outcome pend_outcome
  pend_refused m p line why e = refused_first (wrong_memory u.limits m) (unsound u) _ why e

  pub pend_passed : (m : List ℕ) (p line : ℕ) → start_outcome u m ≡ Ok tt
      → pend_outcome u m p line ≡ cond (leb u.view.partitions p) (Err NoPartition) (cond (ltb last_line line) (Err NoLine) (Ok tt))
  unfolding start_outcome pend_outcome
  pend_passed m p line e = passed_first (wrong_memory u.limits m) (unsound u) _ e

  pub run_refused : (x : State) (n : ℕ) (why : Refused) → start_outcome u x.memory ≡ Err why → run_outcome u x n ≡ Err why
  unfolding start_outcome run_outcome
  run_refused x n why e = refused_first (wrong_memory u.limits x.memory) (unsound u) _ why e

  pub run_passed : (x : State) (n : ℕ) → start_outcome u x.memory ≡ Ok tt
      → run_outcome u x n ≡ cond (not (is_place u.view x.place)) (Err NoPlace) (cond (ltb most_ticks_of_run n) (Err TooManyTicks) (Ok tt))
  unfolding start_outcome run_outcome
  run_passed x n e = passed_first (wrong_memory u.limits x.memory) (unsound u) _ e

  pub pend_partition : (m : List ℕ) (p line : ℕ) → pend_outcome u m p line ≡ Ok tt → p < u.view.partitions
  unfolding pend_outcome
  pend_partition m p line h =
      leb-false u.view.partitions p
      (left (leb u.view.partitions p) NoPartition _
      (others (unsound u) Unsound _ (others (wrong_memory u.limits m) WrongMemory _ h)))

  pub run_place : (x : State) (n : ℕ) → run_outcome u x n ≡ Ok tt → is_place u.view x.place ≡ true
  unfolding run_outcome
  run_place x n h =
      not-false (is_place u.view x.place)
      (left _ NoPlace _
      (others (unsound u) Unsound _ (others (wrong_memory u.limits x.memory) WrongMemory _ h)))

  pub run_sound : (x : State) (n : ℕ) → run_outcome u x n ≡ Ok tt → u.sound ≡ true
  unfolding run_outcome
  run_sound x n h = not-false u.sound (left (unsound u) Unsound _ (others (wrong_memory u.limits x.memory) WrongMemory _ h))

  run_whole : (x : State) (n : ℕ) → run_outcome u x n ≡ Ok tt → length x.memory ≡ u.limits.memory
  unfolding run_outcome
  run_whole x n h = eqb-true _ _ (not-false (eqb (length x.memory) u.limits.memory) (left (wrong_memory u.limits x.memory) WrongMemory _ h))

  -- The state that a Run acts on stands.
  pub run_stands : (x : State) (n : ℕ) → run_outcome u x n ≡ Ok tt → Stands u.limits u.view x
  run_stands x n h = record { whole = run_whole x n h; placed = run_place x n h }

  pub start_whole : (m : List ℕ) → start_outcome u m ≡ Ok tt → length m ≡ u.limits.memory
  unfolding start_outcome
  start_whole m h = eqb-true _ _ (not-false (eqb (length m) u.limits.memory) (left (wrong_memory u.limits m) WrongMemory _ h))

  pub start_sound : (m : List ℕ) → start_outcome u m ≡ Ok tt → u.sound ≡ true
  unfolding start_outcome
  start_sound m h = not-false u.sound (left (unsound u) Unsound _ (others (wrong_memory u.limits m) WrongMemory _ h))
