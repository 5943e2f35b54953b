-- 01, "The policy text": a text is bytes. A definition's text is a list of numbers, so it is said here of the printed one, and
-- with it a sound record has an accepted text that can be written.
use Rattle.std.specs.Prelude.{ℕ, ◌≤◌, ◌<◌, ◌≡◌, ◌↔◌, List, length, get_or, Ok}
use Rattle.policy.specs.Limits.{Limits, single}
use Rattle.policy.specs.Tables.{Tables}
use Rattle.policy.specs.Read.{read_of}
use Rattle.policy.specs.Sound.{Sound}
use Rattle.printer.specs.Printer.{text_of}
use Rattle.printer.specs.Roomy.{Roomy}

-- Each entry is a byte; past the end stands 0.
abbrev pub AreBytes : List ℕ → Type 0
AreBytes text = (i : ℕ) → get_or text i 0 < 256

-- For every head with room.
abbrev pub PrintedBytes : Type 0
PrintedBytes = (limits : Limits) (tables : Tables) → Roomy limits → Sound limits tables → AreBytes (text_of limits tables)

-- An accepted text of bytes, at most so many, that gives the record.
pub record ByteText (limits : Limits) (tables : Tables) (most : ℕ) : Type 0 where
  pub text : List ℕ
  pub gives : read_of limits text ≡ record { refusal = Ok tt; tables = tables }
  pub bytes : AreBytes text
  pub short : length text ≤ most

-- "A record is sound if some accepted text gives it": whether a text is numbers or bytes makes no difference.
abbrev pub SoundByBytes : Type 0
SoundByBytes = (tables : Tables) → Sound single tables ↔ ByteText single tables 15728
