-- 02, S-1: "a report: for each segment, all segments from which a chain of one or more flow lines leads to it, ascending, itself too if a
-- chain returns".
use Rattle.std.specs.Prelude.{ℕ, zero, suc, Bool, cond, List, [], ◌∷◌, ◌++◌, ltb}
use Rattle.bits.specs.Masks.{mask_of}
use Rattle.policy.specs.Below.{list_below}
use Rattle.policy.specs.Limits.{Limits}
use Rattle.policy.specs.View.{View}
use Rattle.reach.specs.Via.{reaches}

-- The numbers below n that pass a test, ascending.
unfoldable pub those_below : ℕ → (ℕ → Bool) → List ℕ
those_below zero test = []
those_below (suc n) test = those_below n test ++ cond (test n) (n ∷ []) []

-- "for each segment, all segments from which a chain .. leads to it, ascending"
abbrev pub row_of : View → ℕ → List ℕ
row_of v t = those_below v.segments (λ s. reaches v s t)

-- "for each segment"
abbrev pub report_of : View → List (List ℕ)
report_of v = list_below v.segments (row_of v)

-- The report as the head's array of masks, bit s of mask t for s in the row of t; a mask past the segments is 0.
abbrev pub row_mask : View → ℕ → ℕ
row_mask v t = cond (ltb t v.segments) (mask_of v.segments (λ s. reaches v s t)) 0

abbrev pub report_masks : Limits → View → List ℕ
report_masks limits v = list_below limits.segments (row_mask v)
