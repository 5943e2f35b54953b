-- The first of some answers, each with the test whether it applies: how 01 orders refusals.
use Rattle.std.specs.Prelude.{Bool, cond, List, [], ◌∷◌}

pub record Rule (A : Type 0) : Type 0 where
  pub applies : Bool
  pub answer : A

-- With the answer where none applies.
abbrev pub first_of : {A : Type 0} → A → List (Rule A) → A
first_of none [] = none
first_of none (r ∷ rs) = cond r.applies r.answer (first_of none rs)
