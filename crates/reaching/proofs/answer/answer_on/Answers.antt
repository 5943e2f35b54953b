-- By the words and by what reading answers; each line fits the buffer.
use Rattle.std.proofs.Common.{refl, arith}
use Rattle.policy.specs.Limits.{single}
use Rattle.policy.specs.Record.{tables_of}
use Rattle.reaching.proofs.Laws.Answer.{answer_short, question_none, question_refused, question_answered}
use Rattle.report.proofs.Laws.Reading.{named_short}
use Rattle.writing.proofs.Laws.Writer.{adds_filled}
use Rattle.reaching.proofs.answer.answer_on.Goals as goal

pub returns-in_default : goal.returns-in_default
returns-in_default c =
    rw (question_none single _ _ c.words_in.ensures c.in_default.is)
    (adds_filled 3424 c.new-writer.ensures.nothing_written c.put_word.ensures (omega arith) (omega arith) c.len.ensures)

pub put_refused-requires : goal.put_refused-requires
put_refused-requires c = (named_short _ c.in-Err.ensures, omega arith)

pub returns-in-Err : goal.returns-in-Err
returns-in-Err c =
    let row = c.put_refused.ensures in
    rw (question_refused single _ _ c.words_in.ensures c.in-Some.is c.in-Err.ensures refl)
    (row.0, omega (arith, row.1), row.2)

pub returns-in-Ok : goal.returns-in-Ok
returns-in-Ok c =
    let w = c.in-Some.asked in
    let short = answer_short single (tables_of c.in-Ok.policy) w.from w.to (omega arith) in
    rw (question_answered single _ _ c.words_in.ensures c.in-Some.is c.in-Ok.ensures refl)
    (adds_filled 3424 c.new-writer-in-Ok.ensures.nothing_written c.put_answer.ensures (omega arith) (omega arith) c.len-in-Ok.ensures)
