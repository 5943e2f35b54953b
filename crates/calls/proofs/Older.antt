-- Runs that fetch none of the later opcodes: tick by tick they are those of the machine that lacks them.
use Prim.Native.Nat.{ℕ, zero, suc, ◌≤◌, ◌<◌, zero-le, suc-le-suc}
use native.Mathlib.Omega.{arith}
use native.Mathlib.Decide.{ℕ_discrete}
use mathlib.Core.Path.{◌≡◌, refl, sym, ◌∙◌, ap}
use mathlib.Core.Bool.{Bool, true, false, cond}
use Rattle.std.specs.Prelude.{Ok, is_ok}
use Rattle.std.specs.Result.{result_and}
use Rattle.policy.specs.View.{View}
use Rattle.machine.specs.Decode.{last_opcode, last_opcode_of_01, last_opcode_before_s8}
use Rattle.machine.specs.Machine.{State, next, next_up_to}
use Rattle.machine.proofs.Older.{older_tick}
use Rattle.calls.specs.Under.{Under}
use Rattle.calls.specs.Run.{run_outcome, after_ticks, after_run, run_answer}
use Rattle.calls.specs.Lists.{did}
use Rattle.calls.specs.Older.{after_ticks_up_to, after_run_up_to, run_answer_up_to, Older, Unfetched, GoesAsOn, FetchesNeither, OldOpcodes}

pub older : Older
unfolding after_ticks after_ticks_up_to
older last k v zero x free = refl
older last k v (suc n) x free =
    let first : next v x ≡ next_up_to v last x = older_tick v last k x (free 0 (suc-le-suc zero-le)) in
    older last k v n (next v x) (λ i below. free (suc i) (suc-le-suc below)) ∙ ap (after_ticks_up_to last v n) first

-- The machine whose highest opcode is this machine's is this machine.
pub this_machine : (v : View) (n : ℕ) (x : State) → after_ticks_up_to last_opcode v n x ≡ after_ticks v n x
this_machine v n x = sym (older last_opcode (omega arith) v n x (λ k below op above most _. omega arith))

module _ (last : ℕ) (k : last ≤ last_opcode) (u : Under) (x : State) (n : ℕ) (free : (op : ℕ) → last < op → op ≤ last_opcode → Unfetched op u x n) where
  older_run : after_run u x n ≡ after_run_up_to last u x n
  unfolding after_run after_run_up_to did
  older_run = go (is_ok (run_outcome u x n)) refl
    where
      go : (b : Bool) → is_ok (run_outcome u x n) ≡ b → cond b (after_ticks u.view n x) x ≡ cond b (after_ticks_up_to last u.view n x) x
      go true done = older last k u.view n x (λ i below op above most. free op above most i (rw done below))
      go false done = refl

  goes_as_on : GoesAsOn last u x n
  unfolding run_answer run_answer_up_to
  goes_as_on = (ap (λ y. result_and (run_outcome u x n) (Ok y.place)) older_run, older_run)

-- 13, 14 and 15 are all that is above 12 and up to 15, and 15 all that is above 14.
pub fetches_neither : FetchesNeither
fetches_neither u x n thirteen fourteen fifteen = goes_as_on last_opcode_of_01 (omega arith) u x n free
  where
    free : (op : ℕ) → last_opcode_of_01 < op → op ≤ last_opcode → Unfetched op u x n
    free op above most = go (ℕ_discrete op 13) (ℕ_discrete op 14)
      where
        go : Dec (op ≡ 13) → Dec (op ≡ 14) → Unfetched op u x n
        go (yes e) d = rw e thirteen
        go (no a) (yes e) = rw e fourteen
        go (no a) (no b) = let e : op ≡ 15 = omega arith in rw e fifteen

pub old_opcodes : OldOpcodes
old_opcodes u x n fifteen =
    goes_as_on last_opcode_before_s8 (omega arith) u x n (λ op above most. let e : op ≡ 15 = omega arith in rw e fifteen)
