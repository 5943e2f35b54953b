-- 01, "Memory and policy": R(p) and W(p). They are source document 004's subject-to-resource function, by mode of flow:
-- read and write are separate flows, and a write right gives no read right.
use Rattle.std.specs.Prelude.{ℕ, Bool, ◌||◌, eqb}
use Rattle.policy.specs.View.{View}

-- R(p): "the save segment of p and each segment on which p has an r right"
abbrev pub readable : View → ℕ → ℕ → Bool
readable v p s = eqb s (v.save p) || v.reads p s

-- W(p): "the save segment of p and each segment with a w right"
abbrev pub writable : View → ℕ → ℕ → Bool
writable v p s = eqb s (v.save p) || v.writes p s
