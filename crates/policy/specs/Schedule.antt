-- The schedule: the slots in order, each with its ticks. 02, S-7: "We want a sheet with, for each partition, its ticks in one round and the
-- longest stretch of ticks in a row, going round the end, in which it isn't current. A partition with no slot shows 0 and 0."
use Rattle.std.specs.Prelude.{ℕ, zero, suc, ◌+◌, ◌%◌, ◌<◌, ◌≤◌, ◌≡◌, Bool, cond, eqb, leb, ltb}
use Rattle.policy.specs.Below.{some_below, sum_below, most_below}
use Rattle.policy.specs.View.{View}

-- The ticks of the slots before the k-th.
abbrev pub ticks_before : View → ℕ → ℕ
ticks_before v k = sum_below k v.ticks

-- "ticks in one round"
abbrev pub round_ticks : View → ℕ
round_ticks v = ticks_before v v.slots

-- The partition under which slot k is booked: the one that is current in it.
abbrev pub booked : View → ℕ → ℕ
booked v k = v.owner k

abbrev pub is_booked : View → ℕ → ℕ → Bool
is_booked v p k = eqb (booked v k) p

abbrev pub has_slot : View → ℕ → Bool
has_slot v p = some_below v.slots (is_booked v p)

-- The ticks that slot k gives to p: all that it has, or none where it is booked under another.
abbrev pub ticks_for : View → ℕ → ℕ → ℕ
ticks_for v p k = cond (is_booked v p k) (v.ticks k) 0

-- "for each partition, its ticks in one round"
unfoldable pub own_ticks : View → ℕ → ℕ
own_ticks v p = sum_below v.slots (ticks_for v p)

-- The silence tick by tick, as 02 says it.

-- The slot of the i-th tick of a round, among the first slots: the last that has begun by then. Ticks are counted from 0.
unfoldable pub slot_in : View → ℕ → ℕ → ℕ
slot_in v zero i = 0
slot_in v (suc k) i = cond (leb (ticks_before v k) i) k (slot_in v k i)

-- The slot of the i-th tick of the endless schedule that begins with slot 0, 0 used: "going round the end"
unfoldable pub slot_at : View → ℕ → ℕ
slot_at v i = slot_in v v.slots (i % round_ticks v)

-- "a stretch of ticks in a row .. in which it isn't current": none of the n ticks from the a-th on lies in a slot booked under p.
abbrev pub Silent : View → ℕ → ℕ → ℕ → Type 0
Silent v p a n = (i : ℕ) → a ≤ i → i < a + n → booked v (slot_at v i) ≡ p → ⊥

-- "the longest stretch": some has n ticks, and none has more.
pub record IsLongest (v : View) (p n : ℕ) : Type 0 where
  pub begin : ℕ
  pub silent : Silent v p begin n
  pub none_longer : (a m : ℕ) → Silent v p a m → m ≤ n

-- The silence by slots, which computes. That it is the longest stretch is proved: `longest`.

-- The slot that comes after slot k: after the last, "going round the end", slot 0.
abbrev pub slot_after : View → ℕ → ℕ
slot_after v k = cond (ltb (k + 1) v.slots) (k + 1) 0

-- The ticks from slot k on until a slot booked under p begins, through m slots at most.
unfoldable pub gap_from : View → ℕ → ℕ → ℕ → ℕ
gap_from v p zero k = 0
gap_from v p (suc m) k = cond (is_booked v p k) 0 (v.ticks k + gap_from v p m (slot_after v k))

-- From each slot on, at most once round; the longest of these. "A partition with no slot shows 0".
unfoldable pub silence : View → ℕ → ℕ
silence v p = cond (has_slot v p) (most_below v.slots (gap_from v p v.slots)) 0
