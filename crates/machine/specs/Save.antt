-- The fields of a save segment's bytes.
use Rattle.std.specs.Prelude.{ℕ, ◌*◌, Bool, not, List, get_or, set, eqb}
use Rattle.std.specs.Int.Bits.{bit_and}
use Rattle.octets.specs.Numbers.{half, word, with_half, with_word}
use Rattle.machine.specs.Layout.{layout}

abbrev pub register : List ℕ → ℕ → ℕ
register save r = word save (layout.width * r)

abbrev pub with_register : List ℕ → ℕ → ℕ → List ℕ
with_register save r n = with_word save (layout.width * r) n

abbrev pub counter : List ℕ → ℕ
counter save = half save layout.counter

abbrev pub with_counter : List ℕ → ℕ → List ℕ
with_counter save n = with_half save layout.counter n

abbrev pub state : List ℕ → ℕ
state save = get_or save layout.state 0

abbrev pub with_state : List ℕ → ℕ → List ℕ
with_state save n = set save layout.state n

abbrev pub pended : List ℕ → ℕ
pended save = get_or save layout.pended 0

abbrev pub enabled : List ℕ → ℕ
enabled save = get_or save layout.enabled 0

-- "in-handler 42 (0 no, else yes)"
abbrev pub in_handler : List ℕ → Bool
in_handler save = not (eqb (get_or save layout.in_handler 0) 0)

-- Lines that are both pended and enabled.
abbrev pub due : List ℕ → ℕ
due save = bit_and (pended save) (enabled save)
