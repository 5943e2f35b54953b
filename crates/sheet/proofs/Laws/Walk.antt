-- Backwards through the slots, one at a time: what the loops hold of each partition.
use Prim.Native.Nat.{ℕ, suc, ◌+◌, ◌-◌, ◌<◌, ◌≤◌}
use mathlib.Core.Path.{◌≡◌, refl, sym, subst, ◌∙◌}
use mathlib.Core.Bool.{cond}
use mathlib.Core.List.{List}
use native.Mathlib.Nat.{zero-add, sub-zero}
use native.Mathlib.Omega.{arith}
use native.Mathlib.Decide.{ℕ_discrete}
use borrow.Author.Tests.{eq-eqb, ne_eqb}
use lib.ListN.{get_or, length, set, length-set}
use lib.Seq.{get_or-set_same, get_or-set_other}
use Rattle.policy.specs.Below.{sum_below, list_below}
use Rattle.policy.specs.View.{View}
use Rattle.policy.specs.Schedule.{ticks_before, round_ticks, booked, is_booked, slot_after, gap_from, ticks_for, own_ticks}
use Rattle.policy.proofs.Laws.Lists.{list_is}
use Rattle.policy.proofs.Laws.Sums.{sum_more}
use Rattle.policy.proofs.Laws.Rounds.{slot, slot_first, slot_after_lem}
use Rattle.sheet.specs.Slots.{first_begin}

-- An entry of each partition, where one slot's partition has got another.
pub each_set : (P : ℕ → ℕ → Type 0) (l : List ℕ) (q n : ℕ) → q < length l → P q n → ((p : ℕ) → (p ≡ q → ⊥) → p < length l → P p (get_or l p 0)) →
    (p : ℕ) → p < length (set l q n) → P p (get_or (set l q n) p 0)
each_set P l q n h new old p below = go (ℕ_discrete p q)
  where
    below' : p < length l
    below' = rw length-set at below

    go : Dec (p ≡ q) → P p (get_or (set l q n) p 0)
    go (yes e) = rw (e, get_or-set_same l q n 0 h) new
    go (no d) = rw (get_or-set_other l q p n 0 d) (old p d below')

module _ (v : View) where
  abbrev slots : ℕ
  slots = v.slots

  -- The gap from slot k through the rest of its round and `more` slots; from past the last slot it is that from slot 0.
  abbrev pub gap_over : ℕ → ℕ → ℕ → ℕ
  gap_over more p k = gap_from v p (more + (slots - k)) (slot slots k)

  pub over_more : (more p k : ℕ) → k < slots → gap_over more p k ≡ cond (is_booked v p k) 0 (v.ticks k + gap_over more p (k + 1))
  unfolding gap_from
  over_more more p k l =
      let fuel : more + (slots - k) ≡ suc (more + (slots - (k + 1))) = omega arith in
      let after : slot_after v k ≡ slot slots (k + 1) = rw (slot_first slots k l) at (slot_after_lem v p k (omega arith)) in
      rw (slot_first slots k l, fuel, after)

  module _ (k : ℕ) (l : k < slots) where
    pub over_own : (more p : ℕ) → p ≡ booked v k → gap_over more p k ≡ 0
    over_own more p e = over_more more p k l ∙ rw (eq-eqb (booked v k) p (sym e))

    pub over_other : (more p : ℕ) → (p ≡ booked v k → ⊥) → gap_over more p k ≡ v.ticks k + gap_over more p (k + 1)
    over_other more p d = over_more more p k l ∙ rw (ne_eqb (booked v k) p (λ e. d (sym e)))

    -- Where each partition's next slot begins: `far` ticks before the end is slot k.
    pub ahead_more : (more far : ℕ) (ahead : List ℕ) → booked v k < length ahead →
        ((p : ℕ) → p < length ahead → get_or ahead p 0 + gap_over more p (k + 1) ≡ far) →
        (p : ℕ) → p < length (set ahead (booked v k) (far + v.ticks k)) →
        get_or (set ahead (booked v k) (far + v.ticks k)) p 0 + gap_over more p k ≡ far + v.ticks k
    ahead_more more far ahead h old =
        each_set (λ p a. a + gap_over more p k ≡ far + v.ticks k) ahead (booked v k) (far + v.ticks k) h
        (omega (arith, over_own more (booked v k) refl))
        (λ p d b. omega (arith, over_other more p d, old p b))

    -- The ticks of each partition in the slots from k on.
    pub own_more : (own : List ℕ) → booked v k < length own →
        ((p : ℕ) → p < length own → get_or own p 0 + sum_below (k + 1) (ticks_for v p) ≡ own_ticks v p) →
        (p : ℕ) → p < length (set own (booked v k) (get_or own (booked v k) 0 + v.ticks k)) →
        get_or (set own (booked v k) (get_or own (booked v k) 0 + v.ticks k)) p 0 + sum_below k (ticks_for v p) ≡ own_ticks v p
    own_more own h old =
        each_set (λ p a. a + sum_below k (ticks_for v p) ≡ own_ticks v p) own (booked v k) (get_or own (booked v k) 0 + v.ticks k) h
        (let mine : ticks_for v (booked v k) k ≡ v.ticks k = rw (eq-eqb (booked v k) (booked v k) refl) in
        omega (arith, mine, old (booked v k) h, sum_more (ticks_for v (booked v k)) k))
        (λ p d b.
        let none : ticks_for v p k ≡ 0 = rw (ne_eqb (booked v k) p (λ e. d (sym e))) in
        omega (arith, none, old p b, sum_more (ticks_for v p) k))

  -- What the first loop holds once the slots from k on are gone through.
  pub record Added (k far : ℕ) (own ahead : List ℕ) : Type 0 where
    pub far_is : far + ticks_before v k ≡ round_ticks v
    pub own_is : (p : ℕ) → p < length own → get_or own p 0 + sum_below k (ticks_for v p) ≡ own_ticks v p
    pub ahead_is : (p : ℕ) → p < length ahead → get_or ahead p 0 + gap_over 0 p k ≡ far

  pub added_none : (own ahead : List ℕ) → ((p : ℕ) → get_or own p 0 ≡ 0) → ((p : ℕ) → get_or ahead p 0 ≡ 0) → Added slots 0 own ahead
  unfolding own_ticks gap_from
  added_none own ahead h g =
      let none : slots - slots ≡ 0 = omega arith in
      record {
        far_is = zero-add (round_ticks v);
        own_is = λ p l. rw (h p, zero-add);
        ahead_is = λ p l. rw (g p, none, zero-add);
      }

  module _ (k far : ℕ) (own ahead : List ℕ) (l : k < slots) (a : booked v k < length own) (b : booked v k < length ahead)
      (j : ℕ) (next : j ≡ k + 1) (held : Added j far own ahead) where
    h : Added (k + 1) far own ahead
    h = subst (λ j. Added j far own ahead) next held

    pub added_more : Added k (far + v.ticks k) (set own (booked v k) (get_or own (booked v k) 0 + v.ticks k)) (set ahead (booked v k) (far + v.ticks k))
    added_more =
        record {
          far_is = omega (arith, h.far_is, sum_more v.ticks k);
          own_is = own_more k l own a h.own_is;
          ahead_is = ahead_more k l 0 far ahead b h.ahead_is;
        }

    -- The sums stay small.
    pub far_small : far + v.ticks k ≤ round_ticks v
    far_small = omega (arith, added_more.far_is)

    pub own_small : get_or own (booked v k) 0 + v.ticks k ≤ own_ticks v (booked v k)
    own_small =
        let mine : ticks_for v (booked v k) k ≡ v.ticks k = rw (eq-eqb (booked v k) (booked v k) refl) in
        omega (arith, mine, h.own_is (booked v k) a, sum_more (ticks_for v (booked v k)) k)

  -- The whole round.
  module _ {far : ℕ} {own ahead : List ℕ} (h : Added 0 far own ahead) where
    pub far_all : far ≡ round_ticks v
    unfolding sum_below
    far_all = omega (arith, h.far_is)

    pub own_all : own ≡ list_below (length own) (own_ticks v)
    unfolding sum_below
    own_all = list_is own (own_ticks v) (λ p l. omega (arith, h.own_is p l))

    pub ahead_all : 0 < slots → ahead ≡ list_below (length ahead) (first_begin v)
    ahead_all some =
        list_is ahead (first_begin v)
        (λ p l. omega (arith, far_all, h.ahead_is p l, first p))
      where
        first : (p : ℕ) → gap_over 0 p 0 ≡ gap_from v p slots 0
        first p = rw (slot_first slots 0 some, zero-add, sub-zero)
