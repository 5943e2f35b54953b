-- A record that isn't sound has no sheet; what the loops find of a sound one is it.
use mathlib.Core.Path.{sym, ◌∙◌}
use Rattle.policy.specs.Limits.{single}
use Rattle.policy.specs.Record.{tables_of}
use Rattle.sheet.specs.Answer.{sheet_answer}
use Rattle.sheet.proofs.Laws.Answer.{own_shown, silence_shown}
use Rattle.sheet.proofs.answer.sheet_of.Goals as goal

pub returns-then-not-passes_test : goal.returns-then-not-passes_test
unfolding sheet_answer
returns-then-not-passes_test c = rw (sym c.passes_test.ensures ∙ c.if-not-passes_test.true)

pub returns : goal.returns
unfolding sheet_answer
returns c =
    let sound = sym c.passes_test.ensures ∙ c.if-not-passes_test.false in
    let t = tables_of c.args.policy.now in
    rw (
      sound,
      c.round_of-round.ensures.own,
      c.longest_silences-silence.ensures,
      own_shown single t sound,
      silence_shown single t sound,
    )
