-- A record that passes the test has a text, which the printer writes; a record that some accepted text gives passes the test.
use mathlib.Core.Path.{sym, ◌∙◌}
use Rattle.policy.specs.Limits.{single}
use Rattle.policy.proofs.Accepted.{accepted}
use Rattle.printer.proofs.Printed.{printed_single}
use Rattle.sound.proofs.sound.Goals as goal

pub returns : goal.returns
returns c =
    let e = c.passes_test.ensures in record {
      is = e;
      decides = record { given = λ h. printed_single _ (sym e ∙ h); told = λ s. e ∙ accepted single _ s };
    }
