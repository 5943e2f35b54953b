-- Each record that the test lets pass has an accepted text, the printed one: its lines read back as they are, reading them gives
-- the record, and it is short enough.
use Prim.Native.Nat.{◌≤◌}
use mathlib.Core.Path.{◌≡◌}
use mathlib.Core.Bool.{true}
use native.Mathlib.Omega.{arith}
use borrow.Author.Tests.{le-ltb}
use lib.ListN.{length}
use Rattle.policy.specs.Limits.{Limits, single}
use Rattle.policy.specs.Tables.{Tables}
use Rattle.policy.specs.Read.{read_by, read_of}
use Rattle.policy.specs.Sound.{Sound, sound_of}
use Rattle.std.specs.Prelude.{Ok}
use Rattle.printer.specs.Printer.{lines_of_record, text_of, text_bound}
use Rattle.printer.specs.Roomy.{Roomy}
use Rattle.printer.proofs.Laws.Lines.{lines_back}
use Rattle.printer.proofs.Laws.Passed.{passed}
use Rattle.printer.proofs.Laws.Fits.{record_printable}
use Rattle.printer.proofs.Laws.Bound.{bound_single, roomy_single, text_short}
use Rattle.printer.proofs.Laws.Fold.{lines_read}

pub printed_bound : (limits : Limits) (t : Tables) → sound_of limits t ≡ true → length (text_of limits t) ≤ text_bound limits
printed_bound limits t h = text_short limits t (passed limits t h)

module _ (limits : Limits) (t : Tables) (r : Roomy limits) (h : sound_of limits t ≡ true) where
  pub printed_gives : read_of limits (text_of limits t) ≡ record { refusal = Ok tt; tables = t }
  unfolding read_by text_of
  printed_gives =
      rw (
        le-ltb limits.text (length (text_of limits t)) (omega (arith, printed_bound limits t h, r.text)),
        lines_back (lines_of_record limits t) (record_printable limits t (passed limits t h) r),
      )
      (lines_read limits t (passed limits t h))

  pub printed : Sound limits t
  printed = record { text = text_of limits t; gives = printed_gives }

module _ (t : Tables) (h : sound_of single t ≡ true) where
  -- 01: "every sound record has a text of at most 15,728 bytes"
  pub printed_short : length (text_of single t) ≤ 15728
  printed_short = rw bound_single at (printed_bound single t h)

  pub printed_single : Sound single t
  printed_single = printed single t roomy_single h
