-- Below 64 the mask has the one bit, from 64 on none.
use Prim.Native.Nat.{ℕ, ◌*◌, ◌%◌, ◌^◌, ◌<◌}
use mathlib.Core.Path.{◌≡◌, ◌∙◌}
use native.Mathlib.Nat.{one-mul, mod-eq_of_lt}
use native.Mathlib.Omega.{arith}
use lib.Dec.{eqb}
use lib.Pow.{pow-lt}
use Rattle.std.specs.Option.{SomeIff, unwrap_or}
use Rattle.std.specs.declared.option.Option.TheVariants.{the_data, Some, None}
use Rattle.bits.specs.Masks.{mask_of}
use Rattle.bits.proofs.Laws.Sets.{none_is, one_is}
use Rattle.bits.proofs.set.bit_of.Goals as goal

shifted : (s : ℕ) (r : the_data ℕ) → SomeIff r (s < 64) (1 * 2 ^ s % 2 ^ 64) → unwrap_or r 0 ≡ mask_of 64 (λ u. eqb u s)
shifted s (Some bit) h = rw (h.1, one-mul, mod-eq_of_lt (pow-lt {j = 64} h.0)) (one_is 64 s h.0)
shifted s None h = none_is 64 s (omega (arith, h))

pub returns : goal.returns
returns c = c.unwrap_or.ensures ∙ shifted c.args.s c.checked_shl.result c.checked_shl.ensures
