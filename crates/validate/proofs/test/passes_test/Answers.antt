-- The code makes the definition's tests, which rest on counts within the limits; the arrays have the lengths of their types.
use mathlib.Core.Path.{◌≡◌}
use mathlib.Core.Bool.{true, false, and-true, and-false}
use borrow.Author.Rules.{rules}
use Rattle.policy.proofs.Entries.{Lengths, counts}
use Rattle.policy.specs.Limits.{single}
use Rattle.policy.specs.Record.{tables_of}
use Rattle.policy.specs.Sound.{counts_fit, sound_of}
use Rattle.policy.specs.Tables.{view_of}
use Rattle.validate.proofs.test.passes_test.Goals as goal

pub returns-then-not-fit : goal.returns-then-not-fit
unfolding sound_of counts_fit
returns-then-not-fit c =
    let over : counts_fit single (view_of (tables_of c.args.policy.now)) ≡ false = c.if-not-fit.true in
    rw (over, and-false)

pub record_refusal-refusal-requires : goal.record_refusal-refusal-requires
unfolding counts_fit
record_refusal-refusal-requires c =
    let n = counts single (view_of (tables_of c.args.policy.now)) c.if-not-fit.false in
    (n.segments, n.partitions)

pub invariant_of-counted : goal.invariant_of-counted
unfolding counts_fit
invariant_of-counted c =
    let narrow = c.record_refusal-refusal.ensures.narrow in
    let lengths : Lengths single (tables_of c.args.policy.now) =
    record {
      base = search rules;
      size = search rules;
      code = search rules;
      save = search rules;
      owner = search rules;
      ticks = search rules;
      reads = search rules;
      writes = search rules;
      sources = search rules;
    } in
    record {
      counts = counts single (view_of (tables_of c.args.policy.now)) c.if-not-fit.false;
      lengths = lengths;
      fit = record { reads = narrow.0; writes = narrow.1; sources = narrow.2 };
    }

pub returns : goal.returns
unfolding counts_fit sound_of
returns c =
    let fit : counts_fit single (view_of (tables_of c.args.policy.now)) ≡ true = c.if-not-fit.false in
    rw (c.is_ok.ensures.value, c.record_refusal-refusal.ensures.refusal, c.entries_hold.ensures, fit, and-true)
