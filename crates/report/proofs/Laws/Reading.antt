-- What reading a text gives whoever writes of it: a refusal's line is short, and an accepted text's record is sound.
use Prim.Native.Nat.{ℕ, ◌<◌}
use mathlib.Core.Path.{◌≡◌, sym, ap, ◌∙◌}
use mathlib.Core.Bool.{true}
use mathlib.Core.List.{List}
use native.Mathlib.Omega.{arith}
use Rattle.policy.specs.Limits.{single}
use Rattle.policy.specs.Refusals.{is_accepted, line_number_of}
use Rattle.policy.specs.Read.{Answer, read_of}
use Rattle.policy.specs.Sound.{sound_of}
use Rattle.policy.proofs.Accepted.{accepted}
use Rattle.policy.proofs.Readings.{line_named, accepted_sound}

module _ (text : List ℕ) {a : Answer} (read : a ≡ read_of single text) where
  pub named_short : line_number_of a.refusal < 100000
  named_short = rw (ap (λ a. line_number_of a.refusal) read) (omega (arith, line_named single text))

  pub sound_read : is_accepted a.refusal ≡ true → sound_of single a.tables ≡ true
  sound_read h =
      ap (λ a. sound_of single a.tables) read
      ∙ accepted single (read_of single text).tables (accepted_sound single text (sym (ap (λ a. is_accepted a.refusal) read) ∙ h))
