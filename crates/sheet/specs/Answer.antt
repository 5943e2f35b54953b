-- 02, S-7: "We want a sheet with, for each partition, its ticks in one round and the longest stretch of ticks in a row, going round the
-- end, in which it isn't current. A partition with no slot shows 0 and 0. [..] Refused: 10, all zeros."
use Rattle.std.specs.Prelude.{ℕ, cond, List, ltb, Result}
use Rattle.policy.specs.declared.record.NoAnswer.{NoAnswer}
use Rattle.policy.specs.Asked.{where_sound}
use Rattle.policy.specs.Below.{list_below}
use Rattle.policy.specs.Limits.{Limits}
use Rattle.policy.specs.View.{View}
use Rattle.policy.specs.Schedule.{own_ticks, silence}
use Rattle.calls.specs.Under.{Under}
use Rattle.sheet.specs.declared.Sheet.{Sheet}

-- "for each partition" a number, as the head's array: 0 past the partitions.
abbrev pub for_each : Limits → View → (ℕ → ℕ) → List ℕ
for_each limits v number = list_below limits.partitions (λ p. cond (ltb p v.partitions) (number p) 0)

abbrev pub sheet_for : Limits → View → Sheet
sheet_for limits v =
    record {
      ticks = for_each limits v (own_ticks v);
      silence = for_each limits v (silence v);
    }

-- "Refused: 10". What a refused one shows is said in `answers`.
unfoldable pub sheet_answer : Under → Result Sheet NoAnswer
sheet_answer u = where_sound u.sound (sheet_for u.limits u.view)
