-- The answer about two segments, or a refusal's row.
use Rattle.std.proofs.Common.{arith}
use Rattle.policy.specs.Limits.{single}
use Rattle.policy.specs.Record.{tables_of}
use Rattle.report.proofs.Laws.Rows.{refused_length}
use Rattle.reaching.specs.Question.{answer_line}
use Rattle.reaching.proofs.Laws.Answer.{number_small, asked_inside}
use Rattle.reaching.proofs.answer.put_answer.Goals as goal

pub put_reach-requires : goal.put_reach-requires
put_reach-requires c =
    let inside = asked_inside single (tables_of c.args.policy.now) c.args.from c.args.to c.in-Ok.ensures in
    (inside.0, inside.1, c.requires)

pub returns-in-Ok : goal.returns-in-Ok
unfolding answer_line
returns-in-Ok c = rw (← c.in-Ok.ensures) c.put_reach.ensures

pub put_row-requires : goal.put_row-requires
put_row-requires c =
    let small = number_small c.in-Err.why in
    rw c.from.ensures
    ((omega (arith, small), (omega arith, tt)), omega (arith, refused_length _ 0 small (omega arith)))

pub returns-in-Err : goal.returns-in-Err
unfolding answer_line
returns-in-Err c = rw (← c.in-Err.ensures, ← c.from.ensures) c.put_row.ensures
