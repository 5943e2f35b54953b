-- 01, "Memory and policy": "0 none, 1 r, 2 w, 3 rw": the letters of a right line as a number.
use Rattle.std.specs.Prelude.{ℕ, ◌+◌, Bool, cond, ◌||◌, eqb}
use Rattle.policy.specs.View.{View}

abbrev pub gives_read : ℕ → Bool
gives_read mode = eqb mode 1 || eqb mode 3

abbrev pub gives_write : ℕ → Bool
gives_write mode = eqb mode 2 || eqb mode 3

-- The number of a pair of partition and segment, by what a line gives there.
abbrev pub mode_in : View → ℕ → ℕ → ℕ
mode_in v p s = cond (v.reads p s) 1 0 + cond (v.writes p s) 2 0
