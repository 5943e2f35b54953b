-- The tests of all entries of 32, place by place, are those past the counts and those of the slots.
use Prim.Native.Nat.{ℕ, ◌+◌, ◌-◌, ◌<◌, ◌≤◌}
use mathlib.Core.Path.{◌≡◌, refl, sym, ◌∙◌}
use mathlib.Core.Bool.{Bool, true, cond, ◌&&◌, ◌||◌, not, and-true}
use mathlib.Core.List.{List, []}
use native.Mathlib.Decide.{dec_lt}
use native.Mathlib.Numerals.{add-one}
use native.Mathlib.Omega.{arith}
use borrow.Author.Tests.{eqb-true, le-ltb, lt-leb, lt-ltb, ltb-true}
use lib.Bits.{bit_or}
use lib.Dec.{eqb, leb, ltb}
use lib.ListN.{length, get_or, drop}
use Rattle.policy.specs.Below.{each_below}
use Rattle.policy.specs.Clash.{clashes}
use Rattle.policy.specs.Draft.{with_partitions, with_slots}
use Rattle.policy.specs.Limits.{single, most_ticks}
use Rattle.policy.specs.Range.{out_of_range, outside}
use Rattle.policy.specs.Sound.{all_zero, good_slot}
use Rattle.policy.specs.Tables.{zeros, view_of}
use Rattle.policy.specs.View.{View}
use Rattle.policy.proofs.Laws.Below.{each_at, each_of}
use Rattle.policy.proofs.Laws.Bools.{and_both, and_left, and_right, same_truth}
use Rattle.policy.proofs.Laws.Tests.{parts}
use Rattle.validate.proofs.Laws.Zeros.{or_none, zero_at, zero_of}

-- A place counted from the end of 32.
counted_down : (n i : ℕ) → n ≤ 32 → ltb (i + (32 - n)) 32 ≡ ltb i n
counted_down n i l =
    same_truth (ltb (i + (32 - n)) 32) (ltb i n)
    (λ h. let k = ltb-true (i + (32 - n)) 32 h in lt-ltb i n (omega arith))
    (λ h. let k = ltb-true i n h in lt-ltb (i + (32 - n)) 32 (omega arith))

module _ (base size owner ticks : List ℕ) (segments partitions slots : ℕ) where
  abbrev slot_holds : ℕ → Bool
  slot_holds i = not (leb partitions (get_or owner i 0) || outside 1 most_ticks (get_or ticks i 0))

  -- What holds at a place of the segments, and of the slots.
  abbrev clear_at : ℕ → Bool
  clear_at i = ltb i segments || eqb (get_or base i 0) 0 && eqb (get_or size i 0) 0

  abbrev slot_at : ℕ → Bool
  slot_at i = cond (ltb i slots) (slot_holds i) (eqb (get_or owner i 0) 0 && eqb (get_or ticks i 0) 0)

  abbrev both_at : ℕ → Bool
  both_at i = clear_at i && slot_at i

  -- Before the loop's turn at i: nothing strays where all holds at the places before it.
  abbrev pub Strays : ℕ → ℕ → Type 0
  Strays i stray = eqb stray 0 ≡ each_below i both_at

  pub strays_none : Strays 0 0
  unfolding each_below
  strays_none = refl

  module _ (few : segments ≤ 32) (room : slots ≤ 32) where
    pub strays_more : (i stray past slot : ℕ) → Strays i stray →
        eqb past 0 ≡ ltb (i + (32 - segments)) 32 || eqb (bit_or (get_or base i 0) (get_or size i 0)) 0 →
        eqb slot 0 ≡ cond (ltb (i + (32 - slots)) 32) (slot_holds i) (eqb (get_or owner i 0) 0 && eqb (get_or ticks i 0) 0) →
        Strays (i + 1) (bit_or stray (bit_or past slot))
    unfolding each_below
    strays_more i stray past slot t e f =
        rw (add-one, or_none, or_none, t, e, f, or_none, counted_down segments i few, counted_down slots i room)

    -- The view of the schedule alone.
    abbrev scheduled : View
    scheduled =
        let t = with_partitions (zeros single) (record { count = partitions; code = []; save = [] }) in
        view_of (with_slots t (record { count = 0; owner = owner; ticks = ticks }))

    abbrev good : ℕ → Bool
    good = good_slot single scheduled

    -- Rule 5 asks nothing of a slot.
    slot_inside : (i : ℕ) → i < 32 → good i ≡ slot_holds i
    unfolding good_slot out_of_range clashes
    slot_inside i l = rw (lt-leb 32 i l, and-true)

    abbrev tables : Bool
    tables =
        (all_zero (drop segments base) && all_zero (drop segments size))
        && (all_zero (drop slots owner) && all_zero (drop slots ticks))
        && each_below slots good

    module _ (base_long : length base ≡ 32) (size_long : length size ≡ 32) (owner_long : length owner ≡ 32) (ticks_long : length ticks ≡ 32) where
      tables_to : each_below 32 both_at ≡ true → tables ≡ true
      tables_to h =
          rw (
            zero_of base segments (λ k le l. (clear k le (omega arith)).0),
            zero_of size segments (λ k le l. (clear k le (omega arith)).1),
            zero_of owner slots (λ k le l. (idle k le (omega arith)).0),
            zero_of ticks slots (λ k le l. (idle k le (omega arith)).1),
            each_of good slots (λ k l. slot_inside k (omega arith) ∙ held k l),
          )
        where
          at : (k : ℕ) → k < 32 → both_at k ≡ true
          at = each_at both_at 32 h

          zeros : (x y : ℕ) → eqb x 0 && eqb y 0 ≡ true → (x ≡ 0) × (y ≡ 0)
          zeros x y e = (eqb-true x 0 (and_left (eqb x 0) (eqb y 0) e), eqb-true y 0 (and_right (eqb x 0) (eqb y 0) e))

          clear : (k : ℕ) → segments ≤ k → k < 32 → (get_or base k 0 ≡ 0) × (get_or size k 0 ≡ 0)
          clear k le l = let c = and_left (clear_at k) (slot_at k) (at k l) in zeros _ _ (rw (le-ltb k segments le) at c)

          idle : (k : ℕ) → slots ≤ k → k < 32 → (get_or owner k 0 ≡ 0) × (get_or ticks k 0 ≡ 0)
          idle k le l = let c = and_right (clear_at k) (slot_at k) (at k l) in zeros _ _ (rw (le-ltb k slots le) at c)

          held : (k : ℕ) → k < slots → slot_holds k ≡ true
          held k l = let c = and_right (clear_at k) (slot_at k) (at k (omega arith)) in rw (lt-ltb k slots l) at c

      tables_from : tables ≡ true → each_below 32 both_at ≡ true
      tables_from h = each_of both_at 32 (λ k l. and_both (clear_at k) (slot_at k) (clear k (dec_lt k segments)) (slot k l (dec_lt k slots)))
        where
          clear : (k : ℕ) → Dec (k < segments) → clear_at k ≡ true
          clear k (yes m) = rw (lt-ltb k segments m)
          clear k (no m) =
              rw (
                le-ltb k segments (omega arith),
                zero_at base segments (search parts) k (omega arith),
                zero_at size segments (search parts) k (omega arith),
              )

          slot : (k : ℕ) → k < 32 → Dec (k < slots) → slot_at k ≡ true
          slot k l (yes m) = rw (lt-ltb k slots m) (sym (slot_inside k l) ∙ each_at good slots (search parts) k m)
          slot k l (no m) =
              rw (
                le-ltb k slots (omega arith),
                zero_at owner slots (search parts) k (omega arith),
                zero_at ticks slots (search parts) k (omega arith),
              )

      pub strays_done : (i stray : ℕ) → Strays i stray → i ≡ 32 → eqb stray 0 ≡ tables
      strays_done i stray t q =
          t ∙ rw q (same_truth (each_below 32 both_at) tables tables_to tables_from)
