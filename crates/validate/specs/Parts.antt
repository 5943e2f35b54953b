-- The test of soundness without those of the counts and of the whole.
use Rattle.std.specs.Prelude.{Bool, ◌&&◌}
use Rattle.policy.specs.Limits.{single}
use Rattle.policy.specs.Tables.{Tables, view_of}
use Rattle.policy.specs.Sound.{is_shaped, unused_zero, masks_fit, lines_hold}

-- The tests of the entries: the arrays have their lengths and the masks their widths, the entries past the counts are 0, and the
-- others stand where a line would put them.
abbrev pub entries_hold : Tables → Bool
entries_hold t = is_shaped single t && unused_zero t && masks_fit single t && lines_hold single (view_of t)
