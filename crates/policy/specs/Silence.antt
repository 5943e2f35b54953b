-- What is proved of the schedule sheet's numbers; the proofs are in proofs/.
use Rattle.std.specs.Prelude.{ℕ, ◌+◌, ◌-◌, ◌<◌, ◌≤◌, ◌≡◌, true, false}
use Rattle.policy.specs.Below.{sum_below}
use Rattle.policy.specs.View.{View}
use Rattle.policy.specs.Schedule.{booked, has_slot, own_ticks, round_ticks, silence, IsLongest}

-- "the longest stretch of ticks in a row, going round the end, in which it isn't current": the silence by slots is that of the ticks.
abbrev pub Longest : View → Type 0
Longest v = (p : ℕ) → has_slot v p ≡ true → IsLongest v p (silence v p)

-- "The ticks of all partitions add up to the ticks of one round."
abbrev pub AddsUp : View → Type 0
AddsUp v = sum_below v.partitions (own_ticks v) ≡ round_ticks v

-- "A partition with no slot shows 0 and 0."
abbrev pub NoSlot : View → Type 0
NoSlot v = (p : ℕ) → has_slot v p ≡ false → (own_ticks v p ≡ 0) × (silence v p ≡ 0)

-- A partition with every slot is never silent. Its ticks tell this 0 from that of a partition with no slot.
abbrev pub Alone : View → Type 0
Alone v = (p : ℕ) → ((k : ℕ) → k < v.slots → booked v k ≡ p) → (own_ticks v p ≡ round_ticks v) × (silence v p ≡ 0)

-- In its own ticks a partition isn't silent.
abbrev pub Less : View → Type 0
Less v = (p : ℕ) → silence v p + own_ticks v p ≤ round_ticks v

-- The difference of two numbers, whichever is larger.
abbrev pub distance : ℕ → ℕ → ℕ
distance a b = (a - b) + (b - a)

-- "If one slot's ticks change": the schedules differ in the ticks of slot j alone.
pub record OneSlotApart (v w : View) (j : ℕ) : Type 0 where
  pub slots : w.slots ≡ v.slots
  pub same_booked : (k : ℕ) → booked w k ≡ booked v k
  pub other_ticks : (k : ℕ) → (k ≡ j → ⊥) → w.ticks k ≡ v.ticks k

-- "the longest silence of each partition moves by at most that difference"
abbrev pub MovesLittle : View → View → ℕ → Type 0
MovesLittle v w j = (p : ℕ) → distance (silence v p) (silence w p) ≤ distance (v.ticks j) (w.ticks j)
