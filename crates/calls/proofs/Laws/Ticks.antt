-- Ticks one after another: they add up, and each keeps a state standing.
use Prim.Native.Nat.{ℕ, zero, suc, ◌+◌}
use native.Mathlib.Nat.{zero-add, suc-add}
use mathlib.Core.Path.{◌≡◌}
use Rattle.policy.specs.Limits.{Limits}
use Rattle.policy.specs.View.{View}
use Rattle.policy.specs.Lawful.{Lawful}
use Rattle.machine.specs.Machine.{State, Stands, next}
use Rattle.machine.proofs.OneTick.{next_stands}
use Rattle.calls.specs.Run.{after_ticks}

pub ticks_stand : (limits : Limits) (v : View) (n : ℕ) (x : State) → Lawful limits v → Stands limits v x → Stands limits v (after_ticks v n x)
unfolding after_ticks
ticks_stand limits v zero x w s = s
ticks_stand limits v (suc n) x w s = ticks_stand limits v n (next v x) w (next_stands limits v w x s)

pub ticks_add : (v : View) (i n : ℕ) (x : State) → after_ticks v (i + n) x ≡ after_ticks v n (after_ticks v i x)
unfolding after_ticks
ticks_add v zero n x = rw zero-add
ticks_add v (suc i) n x = rw suc-add (ticks_add v i n (next v x))
