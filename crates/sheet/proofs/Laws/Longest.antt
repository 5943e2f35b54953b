-- Backwards through a round, the longest of the gaps behind a partition's own slots is the longest of all gaps: a gap that begins between two own
-- slots lies in the one that begins behind the first of them.
use Prim.Native.Nat.{ℕ, ◌+◌, ◌-◌, ◌<◌, ◌≤◌, max}
use mathlib.Core.Path.{◌≡◌, refl, sym, ap, subst, ◌∙◌}
use mathlib.Core.Bool.{Bool, true, false, cond, true≢false}
use mathlib.Core.List.{List}
use native.Mathlib.Nat.{add-zero}
use native.Mathlib.Omega.{arith}
use native.Mathlib.Decide.{dec_lt}
use borrow.Author.Tests.{eq-eqb, ne_eqb}
use lib.ListN.{get_or, length, set}
use Rattle.policy.specs.Below.{most_below, list_below}
use Rattle.policy.specs.View.{View}
use Rattle.policy.specs.Schedule.{ticks_before, round_ticks, booked, is_booked, has_slot, gap_from, silence}
use Rattle.policy.proofs.Laws.Below.{some_found, some_at}
use Rattle.policy.proofs.Laws.Lists.{list_at, list_is, list_long}
use Rattle.policy.proofs.Laws.Sums.{sum_more, most_least, most_within}
use Rattle.policy.proofs.Laws.Rounds.{slot_first, slot_second, gap_enough}
use Rattle.policy.proofs.Schedule.{gap_less}
use Rattle.sheet.specs.Slots.{first_begin}
use Rattle.sheet.proofs.Laws.Walk.{gap_over, over_other, each_set, ahead_more}

module _ (v : View) where
  abbrev n : ℕ
  n = v.slots

  -- What a number holds of p once the slots from k on are gone through.
  pub record Held (k p longest : ℕ) : Type 0 where
    pub covers : (j : ℕ) → k ≤ j → j ≤ n → gap_over v n p j ≤ max longest (gap_over v n p k)
    pub within : longest ≤ silence v p
    pub closed : (j : ℕ) → k ≤ j → j < n → is_booked v p j ≡ true → gap_over v n p n ≤ longest

  pub held_none : (p : ℕ) → Held n p 0
  held_none p =
      record {
        covers = λ j a b. let q : j ≡ n = omega arith in rw q (omega arith);
        within = omega arith;
        closed = λ j a b e. absurd (omega arith);
      }

  -- A gap of so many slots is one of once round.
  over_round : (p k : ℕ) → has_slot v p ≡ true → k < n → gap_over v n p k ≡ gap_from v p n k
  over_round p k h l = rw (slot_first n k l) (gap_enough v p h (n - k) k l)

  over_end : (p : ℕ) → 0 < n → gap_over v n p n ≡ gap_from v p n 0
  over_end p l =
      let none : n - n ≡ 0 = omega arith in
      rw (slot_second n n (omega arith), none, add-zero)

  over_within : (p k : ℕ) → has_slot v p ≡ true → 0 < n → k ≤ n → gap_over v n p k ≤ silence v p
  unfolding silence
  over_within p k h some l = rw h (go (dec_lt k n))
    where
      go : Dec (k < n) → gap_over v n p k ≤ most_below n (gap_from v p n)
      go (yes m) = omega (arith, over_round p k h m, most_least (gap_from v p n) n k m)
      go (no m) =
          let q : k ≡ n = omega arith in
          omega (arith, ap (gap_over v n p) q, over_end p some, most_least (gap_from v p n) n 0 some)

  module _ (k : ℕ) (l : k < n) where
    held_own : (longest : ℕ) → Held (k + 1) (booked v k) longest → Held k (booked v k) (max longest (gap_over v n (booked v k) (k + 1)))
    held_own longest h =
        let p = booked v k in
        let here = eq-eqb p p refl in
        record {
          covers = λ j a b. covered j a b (dec_lt k j);
          within = omega (arith, h.within, over_within p (k + 1) (some_found (is_booked v p) n k l here) (omega arith) (omega arith));
          closed = λ j a b e. h.covers n (omega arith) (omega arith);
        }
      where
        covered : (j : ℕ) → k ≤ j → j ≤ n → Dec (k < j) →
            gap_over v n (booked v k) j ≤ max (max longest (gap_over v n (booked v k) (k + 1))) (gap_over v n (booked v k) k)
        covered j a b (yes c) = omega (arith, h.covers j (omega arith) b)
        covered j a b (no c) = let q : j ≡ k = omega arith in rw q (omega arith)

    held_other : (p longest : ℕ) → (p ≡ booked v k → ⊥) → Held (k + 1) p longest → Held k p longest
    held_other p longest d h =
        record {
          covers = λ j a b. covered j a b (dec_lt k j);
          within = h.within;
          closed = λ j a b e. closes j a b e (dec_lt k j);
        }
      where
        covered : (j : ℕ) → k ≤ j → j ≤ n → Dec (k < j) → gap_over v n p j ≤ max longest (gap_over v n p k)
        covered j a b (yes c) = omega (arith, h.covers j (omega arith) b, over_other v k l n p d)
        covered j a b (no c) = let q : j ≡ k = omega arith in rw q (omega arith)

        closes : (j : ℕ) → k ≤ j → j < n → is_booked v p j ≡ true → Dec (k < j) → gap_over v n p n ≤ longest
        closes j a b e (yes c) = h.closed j (omega arith) b e
        closes j a b e (no c) =
            let q : j ≡ k = omega arith in
            absurd (true≢false (sym e ∙ ap (is_booked v p) q ∙ ne_eqb (booked v k) p (λ f. d (sym f))))

    pub held_more : (longest : List ℕ) → booked v k < length longest →
        ((p : ℕ) → p < length longest → Held (k + 1) p (get_or longest p 0)) →
        (p : ℕ) → p < length (set longest (booked v k) (max (get_or longest (booked v k) 0) (gap_over v n (booked v k) (k + 1)))) →
        Held k p (get_or (set longest (booked v k) (max (get_or longest (booked v k) 0) (gap_over v n (booked v k) (k + 1)))) p 0)
    held_more longest h old =
        each_set (Held k) longest (booked v k) (max (get_or longest (booked v k) 0) (gap_over v n (booked v k) (k + 1))) h
        (held_own (get_or longest (booked v k) 0) (old (booked v k) h))
        (λ p d b. held_other p (get_or longest p 0) d (old p b))

  pub held_all : (p longest : ℕ) → 0 < n → Held 0 p longest → longest ≡ silence v p
  unfolding silence
  held_all p longest some h = omega (arith, h.within, reached (has_slot v p) refl)
    where
      bounded : has_slot v p ≡ true → (k : ℕ) → k < n → gap_from v p n k ≤ longest
      bounded e k l =
          let own = some_at (is_booked v p) n e in
          omega (
            arith,
            over_round p k e l,
            h.covers k (omega arith) (omega arith),
            over_round p 0 e some,
            over_end p some,
            h.closed own.number (omega arith) own.below own.passes,
          )

      reached : (b : Bool) → has_slot v p ≡ b → cond b (most_below n (gap_from v p n)) 0 ≤ longest
      reached true e = most_within (gap_from v p n) n longest (bounded e)
      reached false e = omega arith

  -- What the second loop holds once the slots from k on are gone through.
  pub record Walked (k far : ℕ) (ahead longest : List ℕ) : Type 0 where
    pub far_is : far + ticks_before v k ≡ round_ticks v + round_ticks v
    pub ahead_is : (p : ℕ) → p < length ahead → get_or ahead p 0 + gap_over v n p k ≡ far
    pub holds : (p : ℕ) → p < length longest → Held k p (get_or longest p 0)

  pub walked_none : (m : ℕ) (ahead longest : List ℕ) → 0 < n → ahead ≡ list_below m (first_begin v) →
      ((p : ℕ) → get_or longest p 0 ≡ 0) → Walked n (round_ticks v) ahead longest
  walked_none m ahead longest some f z =
      record {
        far_is = refl;
        ahead_is = λ p l.
            let long : length ahead ≡ m = ap length f ∙ list_long (first_begin v) m in
            let at : get_or ahead p 0 ≡ first_begin v p = ap (λ l. get_or l p 0) f ∙ list_at (first_begin v) m p 0 (rw long at l) in
            omega (arith, at, over_end p some, gap_less v p 0 some);
        holds = λ p l. rw (z p) (held_none p);
      }

  pub walked_more : (k far new : ℕ) (ahead longest : List ℕ) → k < n → booked v k < length ahead → booked v k < length longest →
      (j : ℕ) → j ≡ k + 1 → Walked j far ahead longest → new ≡ max (get_or longest (booked v k) 0) (far - get_or ahead (booked v k) 0) →
      Walked k (far + v.ticks k) (set ahead (booked v k) (far + v.ticks k)) (set longest (booked v k) new)
  walked_more k far new ahead longest l a b j next held e =
      let h : Walked (k + 1) far ahead longest = subst (λ j. Walked j far ahead longest) next held in
      let gap : far - get_or ahead (booked v k) 0 ≡ gap_over v n (booked v k) (k + 1) = omega (arith, h.ahead_is (booked v k) a) in
      rw (e, gap)
      (record {
        far_is = omega (arith, h.far_is, sum_more v.ticks k);
        ahead_is = ahead_more v k l n far ahead a h.ahead_is;
        holds = held_more k l longest b h.holds;
      })

  -- The sums stay small.
  pub far_below : (k j : ℕ) {far : ℕ} {ahead longest : List ℕ} → j ≡ k + 1 → Walked j far ahead longest → far + v.ticks k ≤ round_ticks v + round_ticks v
  far_below k j next h = omega (arith, h.far_is, ap (ticks_before v) next, sum_more v.ticks k)

  pub walked_all : (far : ℕ) (ahead longest : List ℕ) → 0 < n → Walked 0 far ahead longest → longest ≡ list_below (length longest) (silence v)
  walked_all far ahead longest some h = list_is longest (silence v) (λ p l. held_all p (get_or longest p 0) some (h.holds p l))
