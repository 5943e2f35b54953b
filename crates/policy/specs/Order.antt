-- 01, refusal 3: "kind, id or pair out of order".
use Rattle.std.specs.Prelude.{ℕ, Bool, false, ◌&&◌, ◌||◌, not, eqb, ltb}
use Rattle.text.specs.declared.line.Line.{Line}
use Rattle.text.specs.declared.line.Line.TheVariants.{Bad, Segment, Partition, Right, Flow, Slot}
use Rattle.policy.specs.declared.record.Key.{Key}
use Rattle.policy.specs.View.{View}

-- "The record words are segment, partition, right, flow and slot, and lines come in this order of kinds."
abbrev pub kind_of : Line → ℕ
kind_of Bad = 0
kind_of (Segment id base size) = 0
kind_of (Partition id code save) = 1
kind_of (Right partition segment mode) = 2
kind_of (Flow from to) = 3
kind_of (Slot partition ticks) = 4

-- What the next line is compared with. No line stands before the first one, and no kind before segment.
abbrev pub key_of : Line → Key
key_of Bad = record { kind = 0; first = 0; second = 0 }
key_of (Segment id base size) = record { kind = 0; first = id; second = 0 }
key_of (Partition id code save) = record { kind = 1; first = id; second = 0 }
key_of (Right partition segment mode) = record { kind = 2; first = partition; second = segment }
key_of (Flow from to) = record { kind = 3; first = from; second = to }
key_of (Slot partition ticks) = record { kind = 4; first = 0; second = 0 }

-- "lines come in this order of kinds"
abbrev pub kind_falls : Key → Line → Bool
kind_falls before line = ltb (kind_of line) before.kind

-- "Ids run 0, 1, 2 without a gap."
abbrev pub id_skips : View → Line → Bool
id_skips v Bad = false
id_skips v (Segment id base size) = not (eqb id v.segments)
id_skips v (Partition id code save) = not (eqb id v.partitions)
id_skips v (Right partition segment mode) = false
id_skips v (Flow from to) = false
id_skips v (Slot partition ticks) = false

-- "strictly ascend, first number first"
abbrev pub ascends : Key → ℕ → ℕ → Bool
ascends before first second = ltb before.first first || eqb before.first first && ltb before.second second

-- "Right pairs (partition, segment) and flow pairs (from, to) strictly ascend": the line before is of the same kind,
-- and not below.
abbrev pub pair_falls : Key → Line → Bool
pair_falls before Bad = false
pair_falls before (Segment id base size) = false
pair_falls before (Partition id code save) = false
pair_falls before (Right partition segment mode) = eqb before.kind 2 && not (ascends before partition segment)
pair_falls before (Flow from to) = eqb before.kind 3 && not (ascends before from to)
pair_falls before (Slot partition ticks) = false

unfoldable pub out_of_order : Key → View → Line → Bool
out_of_order before v line = kind_falls before line || id_skips v line || pair_falls before line
