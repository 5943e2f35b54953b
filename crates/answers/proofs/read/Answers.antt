-- The number and the line are those of the answer.
use mathlib.Core.Path.{◌∙◌, ap}
use Rattle.policy.specs.Read.{Answer}
use Rattle.policy.specs.Refusals.{number_of, line_number_of}
use Rattle.answers.proofs.read.Goals as goal

pub returns-in-Ok : goal.returns-in-Ok
returns-in-Ok c =
    let e = c.in-Ok.ensures in
    record {
      number = ap (λ (a : Answer). number_of a.refusal) e;
      line = ap (λ (a : Answer). line_number_of a.refusal) e;
      policy = ap (λ (a : Answer). a.tables) e;
    }

pub returns-in-Err : goal.returns-in-Err
returns-in-Err c =
    let e = c.in-Err.ensures in
    record {
      number = c.number.ensures ∙ ap (λ (a : Answer). number_of a.refusal) e;
      line = c.line.ensures ∙ ap (λ (a : Answer). line_number_of a.refusal) e;
      policy = c.zeros.ensures ∙ ap (λ (a : Answer). a.tables) e;
    }
