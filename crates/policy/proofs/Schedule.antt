-- S-7's theorems on the sheet's numbers: what they add up to, their zeros, and how little a silence moves with the ticks of one slot.
use Prim.Native.Nat.{ℕ, zero, suc, ◌+◌, ◌-◌, ◌<◌, ◌≤◌}
use mathlib.Core.Path.{◌≡◌, refl, sym, ap, ◌∙◌}
use mathlib.Core.Bool.{Bool, true, false, cond}
use native.Mathlib.Nat.{add-zero}
use native.Mathlib.Omega.{arith}
use native.Mathlib.Decide.{ℕ_discrete}
use borrow.Author.Tests.{eq-eqb}
use Rattle.policy.specs.Below.{some_below, sum_below, most_below}
use Rattle.policy.specs.Limits.{Limits}
use Rattle.policy.specs.View.{View}
use Rattle.policy.specs.Lawful.{Lawful}
use Rattle.policy.specs.Schedule.{round_ticks, booked, is_booked, has_slot, ticks_for, own_ticks, gap_from, silence}
use Rattle.policy.specs.Silence.{AddsUp, NoSlot, Alone, Less, distance, OneSlotApart, MovesLittle}
use Rattle.policy.proofs.Laws.Below.{some_at, none_at, some_same}
use Rattle.policy.proofs.Laws.Sums.{sum_none, sum_same, sum_exchange, sum_one, most_within, most_near}
use Rattle.policy.proofs.Laws.Rounds.{slot, slot_first, slot_apart, before, before_first, before_second, before_more, gap_more}
use Rattle.policy.proofs.Laws.Slots.{gap_own, gap_other}

-- Each slot's ticks are those of one partition; those past the last have none.
pub adds_up_to : (limits : Limits) (v : View) → Lawful limits v → (n : ℕ) → v.partitions ≤ n → sum_below n (own_ticks v) ≡ round_ticks v
unfolding own_ticks
adds_up_to limits v w n h =
    sum_exchange (ticks_for v) n v.slots
    ∙ sum_same _ v.ticks v.slots (λ k l. sum_one (booked v k) (v.ticks k) n (omega (arith, w.owner_there k l)))

pub adds_up : (limits : Limits) (v : View) → Lawful limits v → AddsUp v
adds_up limits v w = adds_up_to limits v w v.partitions (omega arith)

pub no_slot : (v : View) → NoSlot v
unfolding own_ticks silence
no_slot v p h = (sum_none _ v.slots (λ k l. rw (none_at (is_booked v p) v.slots h k l)), rw h)

gap_none : (v : View) (p m k : ℕ) → is_booked v p k ≡ true → gap_from v p m k ≡ 0
unfolding gap_from
gap_none v p zero k e = refl
gap_none v p (suc m) k e = rw e

pub alone : (v : View) → Alone v
unfolding own_ticks silence
alone v p h = (sum_same _ v.ticks v.slots (λ k l. rw (eq-eqb _ p (h k l))), go (has_slot v p))
  where
    go : (b : Bool) → cond b (most_below v.slots (gap_from v p v.slots)) 0 ≡ 0
    go true = omega (arith, most_within (gap_from v p v.slots) v.slots 0 (λ k l. omega (arith, gap_none v p v.slots k (eq-eqb _ p (h k l)))))
    go false = refl

-- A gap and the own ticks beside it, within the ticks of the slots that it may go through.
module _ (v : View) (p : ℕ) where
  abbrev n : ℕ
  n = v.slots

  abbrev own : ℕ → ℕ
  own = ticks_for v p

  gap_and_own : (m x : ℕ) → x + m ≤ n + n →
      gap_from v p m (slot n x) + before n own (x + m) + before n v.ticks x ≤ before n v.ticks (x + m) + before n own x
  unfolding gap_from
  gap_and_own zero x h = rw add-zero (omega arith)
  gap_and_own (suc m) x h = go (is_booked v p (slot n x)) refl (gap_and_own m (x + 1) (omega arith))
    where
      next : x + suc m ≡ x + 1 + m
      next = omega arith

      go : (b : Bool) → is_booked v p (slot n x) ≡ b →
          gap_from v p m (slot n (x + 1)) + before n own (x + 1 + m) + before n v.ticks (x + 1)
          ≤ before n v.ticks (x + 1 + m) + before n own (x + 1) →
          gap_from v p (suc m) (slot n x) + before n own (x + suc m) + before n v.ticks x
          ≤ before n v.ticks (x + suc m) + before n own x
      go true e more =
          let mine : own (slot n x) ≡ v.ticks (slot n x) = rw e in
          rw next (omega (arith, more, mine, gap_own v p m x h e, before_more n own x, before_more n v.ticks x))
      go false e more =
          let mine : own (slot n x) ≡ 0 = rw e in
          rw next (omega (arith, more, mine, gap_other v p m x h e, before_more n own x, before_more n v.ticks x))

  -- Once round from slot k are all slots.
  round_from : (f : ℕ → ℕ) (k : ℕ) → k < n → before n f (k + n) ≡ sum_below n f + before n f k
  round_from f k l =
      let q : k + n - n ≡ k = omega arith in
      before_second n f (k + n) (omega arith) ∙ rw (q, before_first n f k l)

  pub gap_less : (k : ℕ) → k < n → gap_from v p n k + own_ticks v p ≤ round_ticks v
  unfolding own_ticks
  gap_less k l =
      omega (arith, gap_and_own n k (omega arith), ap (gap_from v p n) (slot_first n k l), round_from own k l, round_from v.ticks k l)

pub less : (v : View) → Less v
unfolding silence
less v p = go (has_slot v p) refl
  where
    go : (b : Bool) → has_slot v p ≡ b → cond b (most_below v.slots (gap_from v p v.slots)) 0 + own_ticks v p ≤ round_ticks v
    go true h =
        let first = some_at (is_booked v p) v.slots h in
        omega (
          arith,
          gap_less v p first.number first.below,
          most_within (gap_from v p v.slots) v.slots (round_ticks v - own_ticks v p) (λ k l. omega (arith, gap_less v p k l)),
        )
    go false h = omega (arith, (no_slot v p h).0)

-- Where no slot but j has more ticks, and j at most d more, a gap is at most d longer: it goes through slot j at most once.
module _ (v w : View) (j d : ℕ) (apart : OneSlotApart v w j) (more : v.ticks j ≤ w.ticks j + d) (p : ℕ) where
  abbrev slots : ℕ
  slots = v.slots

  gap_more_other : (m x : ℕ) → x + suc m ≤ slots + slots →
      gap_from w p (suc m) (slot slots x)
      ≡ cond (is_booked v p (slot slots x)) 0 (w.ticks (slot slots x) + gap_from w p m (slot slots (x + 1)))
  gap_more_other m x h = rw (← apart.same_booked (slot slots x), ← apart.slots) (gap_more w p m x (rw apart.slots h))

  -- One slot of the way.
  slot_near : (m x e : ℕ) → x + suc m ≤ slots + slots →
      v.ticks (slot slots x) + gap_from v p m (slot slots (x + 1)) ≤ w.ticks (slot slots x) + gap_from w p m (slot slots (x + 1)) + e →
      gap_from v p (suc m) (slot slots x) ≤ gap_from w p (suc m) (slot slots x) + e
  slot_near m x e h l = rw (gap_more v p m x h, gap_more_other m x h) (go (is_booked v p (slot slots x)))
    where
      go : (b : Bool) →
          cond b 0 (v.ticks (slot slots x) + gap_from v p m (slot slots (x + 1)))
          ≤ cond b 0 (w.ticks (slot slots x) + gap_from w p m (slot slots (x + 1))) + e
      go true = omega arith
      go false = l

  without : (m x : ℕ) → x + m ≤ slots + slots → ((y : ℕ) → x ≤ y → y < x + m → slot slots y ≡ j → ⊥) →
      gap_from v p m (slot slots x) ≤ gap_from w p m (slot slots x) + 0
  unfolding gap_from
  without zero x h none = omega arith
  without (suc m) x h none =
      slot_near m x 0 h
      (omega (
        arith,
        apart.other_ticks (slot slots x) (none x (omega arith) (omega arith)),
        without m (x + 1) (omega arith) (λ y a b. none y (omega arith) (omega arith)),
      ))

  near : (m x : ℕ) → m ≤ slots → x + m ≤ slots + slots → gap_from v p m (slot slots x) ≤ gap_from w p m (slot slots x) + d
  unfolding gap_from
  near zero x s h = omega arith
  near (suc m) x s h = go (ℕ_discrete (slot slots x) j) (near m (x + 1) (omega arith) (omega arith))
    where
      go : Dec (slot slots x ≡ j) → gap_from v p m (slot slots (x + 1)) ≤ gap_from w p m (slot slots (x + 1)) + d →
          gap_from v p (suc m) (slot slots x) ≤ gap_from w p (suc m) (slot slots x) + d
      go (yes q) after =
          let here : v.ticks (slot slots x) ≤ w.ticks (slot slots x) + d = rw q more in
          slot_near m x d h
          (omega (
            arith,
            here,
            without m (x + 1) (omega arith) (λ y a b e. slot_apart slots x y (omega arith) (omega arith) (omega arith) (q ∙ sym e)),
          ))
      go (no q) after = slot_near m x d h (omega (arith, apart.other_ticks (slot slots x) q, after))

  other_silence : silence w p ≡ cond (has_slot v p) (most_below slots (gap_from w p slots)) 0
  unfolding silence
  other_silence =
      ap (λ k. cond (some_below k (is_booked w p)) (most_below k (gap_from w p k)) 0) apart.slots
      ∙ rw (some_same (is_booked w p) (is_booked v p) slots (λ k l. rw (apart.same_booked k)))

  silence_near : silence v p ≤ silence w p + d
  unfolding silence
  silence_near = rw other_silence (go (has_slot v p))
    where
      go : (b : Bool) → cond b (most_below slots (gap_from v p slots)) 0 ≤ cond b (most_below slots (gap_from w p slots)) 0 + d
      go true =
          most_near (gap_from v p slots) (gap_from w p slots) slots d
          (λ k l. rw (slot_first slots k l) at (near slots k (omega arith) (omega arith)))
      go false = omega arith

turned : (v w : View) (j : ℕ) → OneSlotApart v w j → OneSlotApart w v j
turned v w j a =
    record {
      slots = sym a.slots;
      same_booked = λ k. sym (a.same_booked k);
      other_ticks = λ k d. sym (a.other_ticks k d);
    }

-- "If one slot's ticks change .., the longest silence of each partition moves by at most that difference."
pub moves_little : (v w : View) (j : ℕ) → OneSlotApart v w j → MovesLittle v w j
moves_little v w j a p =
    omega (
      arith,
      silence_near v w j (distance (v.ticks j) (w.ticks j)) a (omega arith) p,
      silence_near w v j (distance (v.ticks j) (w.ticks j)) (turned v w j a) (omega arith) p,
    )
