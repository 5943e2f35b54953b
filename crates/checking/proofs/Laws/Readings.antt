-- Reading a text answers within what the report has room for.
use mathlib.Core.Path.{◌≡◌, refl}
use mathlib.Core.Bool.{Bool, true, false}
use mathlib.Core.List.{List}
use Prim.Native.Nat.{ℕ}
use native.Mathlib.Omega.{arith}
use Rattle.policy.specs.Limits.{single}
use Rattle.policy.specs.Tables.{view_of}
use Rattle.policy.specs.Refusals.{is_accepted}
use Rattle.policy.specs.Read.{read_of}
use Rattle.policy.proofs.Accepted.{sound_lawful}
use Rattle.policy.proofs.Readings.{line_named, refused_zeros, accepted_sound}
use Rattle.report.specs.Reportable.{Countable, Reportable}

countable : (text : List ℕ) (b : Bool) → is_accepted (read_of single text).refusal ≡ b → Countable (view_of (read_of single text).tables)
countable text true e =
    let w = sound_lawful single _ (accepted_sound single text e) in
    record { few_segments = w.few_segments; few_partitions = w.few_partitions; few_slots = w.few_slots; ticks_most = w.ticks_most }
countable text false e =
    rw (refused_zeros single text e)
    (record { few_segments = omega arith; few_partitions = omega arith; few_slots = omega arith; ticks_most = λ i l. absurd (omega arith) })

pub reportable : (text : List ℕ) → Reportable (read_of single text)
reportable text =
    record {
      counts = countable text (is_accepted (read_of single text).refusal) refl;
      line_short = omega (arith, line_named single text);
    }
