-- What holds of a record from the first accepted line to the last: the conjuncts of the test, save the rules for the whole, and that
-- no line of a later kind than the last one stands in it. The record of zeros has all that, since nothing stands in it.
pub mod Segments
pub mod Partitions
pub mod Rights
pub mod Flows
pub mod Slots
use Prim.Native.Nat.{ℕ, ◌≤◌}
use mathlib.Core.Path.{◌≡◌, refl}
use mathlib.Core.Bool.{true, false, ◌||◌}
use native.Mathlib.Omega.{arith}
use lib.ListN.{length-replicate}
use Rattle.text.specs.declared.line.Line.{Line}
use Rattle.bits.proofs.Laws.Masks.{has_none}
use Rattle.policy.specs.declared.record.Key.{Key}
use Rattle.policy.specs.Limits.{Limits}
use Rattle.policy.specs.View.{View}
use Rattle.policy.specs.Order.{out_of_order}
use Rattle.policy.specs.Range.{out_of_range}
use Rattle.policy.specs.Clash.{clashes}
use Rattle.policy.specs.Tables.{Tables, zeros, view_of}
use Rattle.policy.specs.Sound.{good_right, good_flow}
use Rattle.policy.proofs.Laws.Zeros.{zero_at, zero_rest, zero-under}
use Rattle.policy.proofs.Entries.{Lengths, Counts, Unused, Fit, Good}

-- kind: that of the last line
pub record Later (v : View) (kind : ℕ) : Type 0 where
  pub partition : kind ≤ 0 → v.partitions ≡ 0
  pub right : kind ≤ 1 → (p s : ℕ) → v.reads p s || v.writes p s ≡ false
  pub flow : kind ≤ 2 → (s u : ℕ) → v.flow s u ≡ false
  pub slot : kind ≤ 3 → v.slots ≡ 0

pub record Kept (limits : Limits) (t : Tables) (kind : ℕ) : Type 0 where
  pub lengths : Lengths limits t
  pub counts : Counts limits (view_of t)
  pub unused : Unused t
  pub fit : Fit limits t
  pub good : Good limits (view_of t)
  pub later : Later (view_of t) kind

-- a line that rules 3, 4 and 5 let pass
pub record Passing (limits : Limits) (v : View) (before : Key) (line : Line) : Type 0 where
  pub ordered : out_of_order before v line ≡ false
  pub ranged : out_of_range limits v line ≡ false
  pub clear : clashes v line ≡ false

-- a pair that no line gives
module _ (limits : Limits) (v : View) where
  pub no_right : (p s : ℕ) → v.reads p s || v.writes p s ≡ false → good_right limits v p s ≡ true
  unfolding good_right
  no_right p s h = rw h

  pub no_flow : (s u : ℕ) → v.flow s u ≡ false → good_flow limits v s u ≡ true
  unfolding good_flow
  no_flow s u h = rw h

pub kept_none : (limits : Limits) → Kept limits (zeros limits) 0
kept_none limits =
    let v = view_of (zeros limits) in
    let rights : (p s : ℕ) → v.reads p s || v.writes p s ≡ false = λ p s. rw (zero_at limits.partitions p, has_none s) in
    let flows : (s u : ℕ) → v.flow s u ≡ false = λ s u. rw (zero_at limits.segments u, has_none s) in
    record {
      lengths = search length-replicate;
      counts = omega arith;
      unused = search zero_rest;
      fit = search zero-under;
      good =
          record {
            segment = λ i l. absurd (omega arith);
            partition = λ i l. absurd (omega arith);
            right = λ p s l m. no_right limits v p s (rights p s);
            flow = λ s u l m. no_flow limits v s u (flows s u);
            slot = λ i l. absurd (omega arith);
          };
      later = record { partition = λ l. refl; right = λ l. rights; flow = λ l. flows; slot = λ l. refl };
    }
