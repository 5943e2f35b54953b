-- 01, refusal 5: "a segment overlaps an earlier one; a save segment's length isn't 44; a segment is save of two
-- partitions, or code of one and save of the same or another; a right names a save segment; a flow goes from a segment
-- to itself".
use Rattle.std.specs.Prelude.{ℕ, ◌+◌, Bool, false, ◌&&◌, ◌||◌, not, eqb, ltb}
use Rattle.text.specs.declared.line.Line.{Line}
use Rattle.text.specs.declared.line.Line.TheVariants.{Bad, Segment, Partition, Right, Flow, Slot}
use Rattle.policy.specs.Below.{some_below}
use Rattle.policy.specs.Limits.{save_size}
use Rattle.policy.specs.View.{View}

-- "overlaps": some byte lies in both.
abbrev pub overlaps : View → ℕ → ℕ → ℕ → Bool
overlaps v base size s = ltb base (v.base s + v.size s) && ltb (v.base s) (base + size)

-- "a segment is save of two partitions, or code of one and save of .. another"
abbrev pub shares : View → ℕ → ℕ → ℕ → Bool
shares v code save q = eqb save (v.save q) || eqb save (v.code q) || eqb code (v.save q)

-- "a segment overlaps an earlier one"
abbrev pub overlaps_earlier : View → ℕ → ℕ → Bool
overlaps_earlier v base size = some_below v.segments (overlaps v base size)

-- "a segment is save of two partitions, or code of one and save of .. another", for a partition and the earlier ones
abbrev pub shares_earlier : View → ℕ → ℕ → Bool
shares_earlier v code save = some_below v.partitions (shares v code save)

-- "a save segment's length isn't 44; a segment is save of two partitions, or code of one and save of the same or
-- another"
abbrev pub partition_clashes : View → ℕ → ℕ → Bool
partition_clashes v code save = not (eqb (v.size save) save_size) || eqb code save || shares_earlier v code save

-- "a right names a save segment"
abbrev pub is_save : View → ℕ → Bool
is_save v s = some_below v.partitions (λ q. eqb s (v.save q))

-- "a flow goes from a segment to itself"
abbrev pub to_itself : ℕ → ℕ → Bool
to_itself from to = eqb from to

unfoldable pub clashes : View → Line → Bool
clashes v Bad = false
clashes v (Segment id base size) = overlaps_earlier v base size
clashes v (Partition id code save) = partition_clashes v code save
clashes v (Right partition segment mode) = is_save v segment
clashes v (Flow from to) = to_itself from to
clashes v (Slot partition ticks) = false
