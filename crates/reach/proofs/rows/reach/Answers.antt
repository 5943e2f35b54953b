-- A record that isn't sound has no row; the rows of a sound one, spread over all its segments, are the report.
use mathlib.Core.Path.{sym, ◌∙◌}
use Rattle.policy.specs.Limits.{single}
use Rattle.policy.specs.Record.{tables_of}
use Rattle.reach.specs.Answers.{reach_answer}
use Rattle.reach.proofs.Laws.Answers.{few, wide, rows_are}
use Rattle.reach.proofs.rows.reach.Goals as goal

pub returns-then-not-passes_test : goal.returns-then-not-passes_test
unfolding reach_answer
returns-then-not-passes_test c = rw (sym c.passes_test.ensures ∙ c.if-not-passes_test.true)

pub spread_all-requires : goal.spread_all-requires
spread_all-requires c =
    let t = tables_of c.args.policy.now in
    let sound = sym c.passes_test.ensures ∙ c.if-not-passes_test.false in
    record { masks = few single t sound; there = wide single t sound }

pub returns : goal.returns
unfolding reach_answer
returns c =
    let t = tables_of c.args.policy.now in
    let sound = sym c.passes_test.ensures ∙ c.if-not-passes_test.false in
    rw (sound, c.spread_all.ensures, rows_are single t sound)
