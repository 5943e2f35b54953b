-- What the tests of a line read of a record, and what a line has to meet so that it can be added.
use Rattle.std.specs.Prelude.{ℕ, ◌+◌, ◌<◌, ◌≤◌, ◌≡◌, false, List, eqb, get_or}
use Rattle.bits.specs.Masks.{has}
use Rattle.text.specs.declared.line.Line.{Line}
use Rattle.text.specs.declared.line.Line.TheVariants.{Bad, Segment, Partition, Right, Flow, Slot}
use Rattle.policy.specs.Limits.{single}
use Rattle.policy.specs.Below.{some_below}
use Rattle.policy.specs.View.{View}
use Rattle.policy.specs.Order.{id_skips}
use Rattle.policy.specs.Range.{out_of_range}
use Rattle.policy.specs.Tables.{zeros, view_of}
use Rattle.policy.specs.Sound.{with_counts}

-- The view of the counts alone, which is all that rule 4 reads.
abbrev pub counted : ℕ → ℕ → ℕ → View
counted segments partitions slots = with_counts (view_of (zeros single)) segments partitions slots

-- The first n segments end at a place or before it.
abbrev pub EndedBy : List ℕ → List ℕ → ℕ → ℕ → Type 0
EndedBy base size n end = (j : ℕ) → j < n → get_or base j 0 + get_or size j 0 ≤ end

-- The bits of a mask are the save segments of the first n partitions.
abbrev pub Barred : List ℕ → ℕ → ℕ → Type 0
Barred save n mask = (s : ℕ) → has mask s ≡ some_below n (λ q. eqb s (get_or save q 0))

-- Where the segment ends that a line gives.
abbrev pub end_of : Line → ℕ
end_of Bad = 0
end_of (Segment id base size) = base + size
end_of (Partition id code save) = 0
end_of (Right partition segment mode) = 0
end_of (Flow from to) = 0
end_of (Slot partition ticks) = 0

-- The segment that a right line names.
abbrev pub right_on : Line → ℕ
right_on Bad = 0
right_on (Segment id base size) = 0
right_on (Partition id code save) = 0
right_on (Right partition segment mode) = segment
right_on (Flow from to) = 0
right_on (Slot partition ticks) = 0

-- A line that 3 and 4 let pass, and a record within the limits: what the line adds then has a place there.
pub record Fits (v : View) (line : Line) : Type 0 where
  pub in_range : out_of_range single v line ≡ false
  pub next_id : id_skips v line ≡ false
  pub few_segments : v.segments ≤ single.segments
  pub few_partitions : v.partitions ≤ single.partitions
  pub few_slots : v.slots ≤ single.slots
