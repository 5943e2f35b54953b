-- Lines of ascending kinds, and pairs that ascend, first number first, are in order.
use Prim.Native.Nat.{ℕ, suc, ◌≤◌, ◌<◌}
use mathlib.Core.Path.{◌≡◌, refl}
use mathlib.Core.Bool.{false, ◌&&◌, not, or-true}
use native.Mathlib.Omega.{arith}
use native.Mathlib.Decide.{dec_lt, ℕ_discrete}
use borrow.Author.Tests.{lt-ltb, le-ltb, eq-eqb, ne_eqb}
use lib.Dec.{eqb}
use Rattle.text.specs.declared.line.Line.TheVariants.{Segment, Partition, Right, Flow, Slot}
use Rattle.policy.specs.View.{View}
use Rattle.policy.specs.Order.{ascends, out_of_order}
use Rattle.policy.specs.declared.record.Key.{Key}

-- No line of a kind above this one stands before.
abbrev pub Upto : ℕ → Key → Type 0
Upto kind key = key.kind ≤ kind

-- And a line of this kind has its pair below this one.
pub record Below (kind first second : ℕ) (key : Key) : Type 0 where
  pub kinds : key.kind ≤ kind
  pub firsts : key.kind ≡ kind → key.first ≤ first
  pub seconds : key.kind ≡ kind → key.first ≡ first → key.second < second

pub below_first : (kind : ℕ) (key : Key) → Upto kind key → Below (suc kind) 0 0 key
below_first kind key h =
    record { kinds = omega arith; firsts = λ e. absurd (omega arith); seconds = λ e. absurd (omega arith) }

pub below_later : (kind a b : ℕ) (key : Key) → Below kind a b key → Below kind a (suc b) key
below_later kind a b key h =
    record { kinds = h.kinds; firsts = h.firsts; seconds = λ e q. omega (arith, h.seconds e q) }

-- The next row.
pub below_row : (kind a b : ℕ) (key : Key) → Below kind a b key → Below kind (suc a) 0 key
below_row kind a b key h =
    record {
      kinds = h.kinds;
      firsts = λ e. omega (arith, h.firsts e);
      seconds = λ e q. absurd (omega (arith, h.firsts e));
    }

pub below_own : (kind a b : ℕ) → Below kind a (suc b) (record { kind = kind; first = a; second = b })
below_own kind a b = record { kinds = omega arith; firsts = λ e. omega arith; seconds = λ e q. omega arith }

pair_ordered : (kind a b : ℕ) (key : Key) → Below kind a b key → eqb key.kind kind && not (ascends key a b) ≡ false
pair_ordered kind a b key h = go (ℕ_discrete key.kind kind) (dec_lt key.first a)
  where
    go : Dec (key.kind ≡ kind) → Dec (key.first < a) → eqb key.kind kind && not (ascends key a b) ≡ false
    go (no d) s = rw (ne_eqb key.kind kind d)
    go (yes e) (yes l) = rw (eq-eqb key.kind kind e, lt-ltb key.first a l)
    go (yes e) (no l) =
        let q : key.first ≡ a = omega (arith, h.firsts e) in
        rw (
          eq-eqb key.kind kind e,
          eq-eqb key.first a q,
          lt-ltb key.second b (h.seconds e q),
          or-true,
        )

-- The lines of each kind, after such a key.
module _ (key : Key) (v : View) where
  pub segment_ordered : (base size : ℕ) → Upto 0 key → out_of_order key v (Segment v.segments base size) ≡ false
  unfolding out_of_order
  segment_ordered base size c = rw (le-ltb 0 key.kind c, eq-eqb v.segments v.segments refl)

  pub partition_ordered : (code save : ℕ) → Upto 1 key → out_of_order key v (Partition v.partitions code save) ≡ false
  unfolding out_of_order
  partition_ordered code save c = rw (le-ltb 1 key.kind c, eq-eqb v.partitions v.partitions refl)

  pub right_ordered : (p s mode : ℕ) → Below 2 p s key → out_of_order key v (Right p s mode) ≡ false
  unfolding out_of_order
  right_ordered p s mode c = rw (le-ltb 2 key.kind c.kinds, pair_ordered 2 p s key c)

  pub flow_ordered : (s u : ℕ) → Below 3 s u key → out_of_order key v (Flow s u) ≡ false
  unfolding out_of_order
  flow_ordered s u c = rw (le-ltb 3 key.kind c.kinds, pair_ordered 3 s u key c)

  pub slot_ordered : (partition ticks : ℕ) → Upto 4 key → out_of_order key v (Slot partition ticks) ≡ false
  unfolding out_of_order
  slot_ordered partition ticks c = rw (le-ltb 4 key.kind c)
