-- S-7's theorem that makes the sheet believable: of a partition with a slot, the silence by slots is the longest stretch of ticks in a row
-- in which it isn't current.
use Prim.Native.Nat.{ℕ, zero, suc, ◌+◌, ◌*◌, ◌/◌, ◌%◌, ◌<◌, ◌≤◌}
use mathlib.Core.Path.{◌≡◌, refl, sym, ap, ◌∙◌}
use mathlib.Core.Bool.{Bool, true, false}
use native.Mathlib.Nat.{mod-lt, div-add-mod, mul-add-mod_self_left}
use native.Mathlib.Omega.{arith}
use native.Mathlib.Decide.{dec_lt}
use borrow.Author.Tests.{eqb-true}
use Rattle.policy.specs.Below.{most_below}
use Rattle.policy.specs.Limits.{Limits}
use Rattle.policy.specs.View.{View}
use Rattle.policy.specs.Lawful.{Lawful}
use Rattle.policy.specs.Schedule.{round_ticks, ticks_before, booked, is_booked, has_slot, slot_in, slot_at, Silent, IsLongest, gap_from, silence}
use Rattle.policy.specs.Silence.{Longest}
use Rattle.policy.proofs.Laws.Sums.{Reaching, sum_within, most_least, most_at}
use Rattle.policy.proofs.Laws.Rounds.{slot, slot_first, before_first, own_ahead}
use Rattle.policy.proofs.Laws.Slots.{InSlot, slot_found, ticks_to, gap_silent, gap_ends}

module _ (limits : Limits) (v : View) (w : Lawful limits v) where
  abbrev n : ℕ
  n = v.slots

  abbrev round : ℕ
  round = round_ticks v

  pub some_round : 0 < round
  some_round = omega (arith, w.ticks_least 0 w.some_slot, sum_within v.ticks n 0 w.some_slot)

  -- A round later the slot is the same.
  pub slot_later : (q i : ℕ) → slot_at v (round * q + i) ≡ slot_at v i
  unfolding slot_at
  slot_later q i = rw (mul-add-mod_self_left round q i)

  module _ (p : ℕ) (h : has_slot v p ≡ true) where
    abbrev gap : ℕ → ℕ
    gap k = gap_from v p n k

    most : silence v p ≡ most_below n gap
    unfolding silence
    most = rw h

    -- The ticks before slot k, and the gap from there, as those of a place of the first round.
    to_slot : (k : ℕ) → k < n → ticks_to v k ≡ ticks_before v k
    to_slot k l = before_first n v.ticks k l

    from_slot : (k : ℕ) → k < n → gap_from v p n (slot n k) ≡ gap k
    from_slot k l = ap gap (slot_first n k l)

    -- A gap has the whole of its first slot.
    gap_first : (m k : ℕ) → 0 < m → is_booked v p k ≡ false → v.ticks k ≤ gap_from v p m k
    unfolding gap_from
    gap_first zero k l e = absurd (omega arith)
    gap_first (suc m) k l e = rw e (omega arith)

    silent : (k : ℕ) → k < n → Silent v p (ticks_before v k) (gap k)
    silent k l i a b e =
        gap_silent v p n k (omega arith) i (omega (arith, to_slot k l)) (omega (arith, to_slot k l, from_slot k l)) e

    -- The tick after the gap from slot k is p's.
    ends : (k : ℕ) → k < n → booked v (slot_at v (ticks_before v k + gap k)) ≡ p
    ends k l =
        let at : ticks_before v k + gap k ≡ ticks_to v k + gap_from v p n (slot n k) = omega (arith, to_slot k l, from_slot k l) in
        let own = own_ahead v p h k l in
        ap (λ i. booked v (slot_at v i)) at
        ∙ gap_ends v p (λ k l. omega (arith, w.ticks_least k l)) n k own.place (omega arith) own.from own.within own.own

    -- A silent stretch lies in the gap from the slot in which it begins.
    within : (a m : ℕ) → Silent v p a m → (k : ℕ) → k < n → slot_at v a ≡ k → InSlot v k (a % round) → m ≤ gap k
    within a m s k l at t = go (dec_lt (gap k) m) (is_booked v p k) refl
      where
        parts : round * (a / round) + a % round ≡ a
        parts = div-add-mod a round

        go : Dec (gap k < m) → (b : Bool) → is_booked v p k ≡ b → m ≤ gap k
        go (no c) b e = omega arith
        go (yes c) true e = absurd (s a (omega arith) (omega arith) (ap (booked v) at ∙ eqb-true _ _ e))
        go (yes c) false e =
            absurd
            (s (round * (a / round) + (ticks_before v k + gap k))
            (omega (arith, parts, t.going, gap_first n k (omega arith) e))
            (omega (arith, parts, t.begun))
            (ap (booked v) (slot_later (a / round) (ticks_before v k + gap k)) ∙ ends k l))

    pub longest_of : IsLongest v p (silence v p)
    unfolding slot_at
    longest_of = rw most (go (most_at gap n w.some_slot))
      where
        bounded : (a m : ℕ) → Silent v p a m → (slot_in v n (a % round) < n) × InSlot v (slot_in v n (a % round)) (a % round) → m ≤ most_below n gap
        bounded a m s (l, t) = omega (arith, within a m s (slot_in v n (a % round)) l refl t, most_least gap n (slot_in v n (a % round)) l)

        go : Reaching gap n → IsLongest v p (most_below n gap)
        go r =
            record {
              begin = ticks_before v r.number;
              silent = rw (sym r.most) (silent r.number r.below);
              none_longer = λ a m s. bounded a m s (slot_found v n (a % round) (mod-lt a some_round));
            }

pub longest : (limits : Limits) (v : View) → Lawful limits v → Longest v
longest limits v w p h = longest_of limits v w p h
