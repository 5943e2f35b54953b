-- The place after some ticks, and places by what their slot has left.
use Rattle.std.specs.Prelude.{ℕ, zero, suc, ◌+◌, ◌-◌, cond, List, ltb, get_or}
use Rattle.policy.specs.View.{View}
use Rattle.machine.specs.declared.Place.{Place}
use Rattle.machine.specs.Place.{place_of, moved}

-- The place after n ticks, each of which moves it.
unfoldable pub moved_by : View → ℕ → Place → Place
moved_by v zero place = place
moved_by v (suc n) place = moved_by v n (moved v place)

-- The slot after one; after the last comes slot 0.
abbrev pub slot_after : ℕ → ℕ → ℕ
slot_after slots slot = cond (ltb (slot + 1) slots) (slot + 1) 0

-- The place in a slot that has so many of its ticks left.
abbrev pub place_with : List ℕ → ℕ → ℕ → ℕ → Place
place_with ticks slot left count = place_of slot (get_or ticks slot 0 - left) count
