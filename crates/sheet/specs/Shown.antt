-- What is proved of the sheet of a sound record; the proofs are in proofs/. policy's Silence has what its numbers mean.
use Rattle.std.specs.Prelude.{ℕ, ◌<◌, ◌≤◌, ◌≡◌, true, get_or, set, IsOkAnd}
use Rattle.policy.specs.Below.{sum_below}
use Rattle.policy.specs.Limits.{Limits}
use Rattle.policy.specs.Tables.{Tables, view_of}
use Rattle.policy.specs.Sound.{sound_of}
use Rattle.policy.specs.Schedule.{round_ticks, has_slot, IsLongest}
use Rattle.policy.specs.Silence.{distance}
use Rattle.calls.specs.Under.{under}
use Rattle.sheet.specs.Answer.{sheet_answer}

-- "the longest stretch of ticks in a row, going round the end, in which it isn't current": what the sheet shows of a partition with a slot.
abbrev pub SheetLongest : Limits → Tables → Type 0
SheetLongest limits t =
    sound_of limits t ≡ true →
    IsOkAnd (sheet_answer (under limits t))
    (λ sheet. (p : ℕ) → has_slot (view_of t) p ≡ true → IsLongest (view_of t) p (get_or sheet.silence p 0))

-- "The ticks of all partitions add up to the ticks of one round."
abbrev pub SheetAddsUp : Limits → Tables → Type 0
SheetAddsUp limits t =
    sound_of limits t ≡ true →
    IsOkAnd (sheet_answer (under limits t))
    (λ sheet. sum_below limits.partitions (λ p. get_or sheet.ticks p 0) ≡ round_ticks (view_of t))

-- The record with other ticks of slot j.
abbrev pub with_ticks : Tables → ℕ → ℕ → Tables
with_ticks t j n =
    record {
      segments = t.segments;
      partitions = t.partitions;
      slots = record { count = t.slots.count; owner = t.slots.owner; ticks = set t.slots.ticks j n };
      rights = t.rights;
      flows = t.flows;
      unused = t.unused;
    }

-- "If one slot's ticks change, within 1 to 1,000, the longest silence of each partition moves by at most that difference." Within 1 to
-- 1,000: both records are sound.
abbrev pub SheetMovesLittle : Limits → Tables → ℕ → ℕ → Type 0
SheetMovesLittle limits t j n =
    sound_of limits t ≡ true → sound_of limits (with_ticks t j n) ≡ true → j < t.slots.count →
    IsOkAnd (sheet_answer (under limits t))
    (λ sheet. IsOkAnd (sheet_answer (under limits (with_ticks t j n)))
    (λ other. (p : ℕ) →
    distance (get_or sheet.silence p 0) (get_or other.silence p 0) ≤ distance (get_or t.slots.ticks j 0) n))
