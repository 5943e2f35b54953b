-- The definitions compute, so each example is its own proof.
use lib.Dec.{T}
use mathlib.Core.List.{◌++◌}
use Rattle.text.specs.Bytes.{same}
use Rattle.text.specs.Examples.{holds, all_hold, decimals, hexadecimals}
use Rattle.text.specs.Number.{all_digits, is_number, value_from, decimal, begins_hex, hexadecimal, number}

pub examples : T (all_hold (decimals ++ hexadecimals))
unfolding holds same all_digits is_number value_from decimal begins_hex hexadecimal number
examples = tt
