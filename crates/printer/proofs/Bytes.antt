-- The printed text is bytes, and so each sound record has an accepted text of bytes.
use Rattle.policy.specs.Limits.{single}
use Rattle.policy.proofs.Accepted.{accepted}
use Rattle.policy.proofs.Laws.Bits.{under_at}
use Rattle.printer.specs.Printer.{lines_of_record, text_of}
use Rattle.printer.specs.Bytes.{PrintedBytes, SoundByBytes}
use Rattle.printer.proofs.Laws.Passed.{passed}
use Rattle.printer.proofs.Laws.Fits.{record_printable}
use Rattle.printer.proofs.Laws.Bound.{roomy_single}
use Rattle.printer.proofs.Laws.Bytes.{lines_bytes}
use Rattle.printer.proofs.Printed.{printed_gives, printed_short}

pub printed_bytes : PrintedBytes
unfolding text_of
printed_bytes limits t r s =
    under_at 8 (text_of limits t)
    (lines_bytes (lines_of_record limits t) (record_printable limits t (passed limits t (accepted limits t s)) r))

pub sound_by_bytes : SoundByBytes
sound_by_bytes t = (
  λ s. record {
    text = text_of single t;
    gives = printed_gives single t roomy_single (accepted single t s);
    bytes = printed_bytes single t roomy_single s;
    short = printed_short t (accepted single t s);
  },
  λ b. record { text = b.text; gives = b.gives },
)
