-- Before each line, what is left to read gives the answer of the whole text (Reached); the text grows shorter with each line. A line that no rule
-- refuses has its place in the record.
use native.Mathlib.Omega.{arith}
use Rattle.std.proofs.lemmas.Result.{err_from_is_err_and}
use Rattle.readlines.proofs.Laws.Answers.{end_accepted, end_refused}
use Rattle.readlines.proofs.Laws.Run.{reached_first}
use Rattle.readlines.proofs.Laws.Step.{step_refused, step_fits, step_more, step_shorter}
use Rattle.readlines.proofs.lines.read_lines.Goals as goal

pub loop-c-init : goal.loop-c-init
loop-c-init c = rw c.new-draft.ensures (reached_first _)

pub line_from-read-requires : goal.line_from-read-requires
line_from-read-requires c =
    let head = c in
    (head.loop-c.invariant.within, omega (arith, head.loop-c.invariant.counted, c.loop-c-test.true, head.requires))

pub returns-in_err-check : goal.returns-in_err-check
returns-in_err-check c =
    let p = err_from_is_err_and c.from_residual.result c.from_residual.ensures.1 in
    rw (p.1, p.2)
    (step_refused _ _ _ _ c.loop-c.invariant c.loop-c-test.true _ _ c.line_from-read.ensures c.check.ensures _ c.in_err-check.was)

pub add-requires : goal.add-requires
add-requires c =
    step_fits _ _ _ _ c.loop-c.invariant c.loop-c-test.true _ _ c.line_from-read.ensures c.check.ensures c.in_ok-check.was

pub loop-c-smaller : goal.loop-c-smaller
loop-c-smaller c =
    omega (
      arith,
      c.loop-c-test.true,
      step_shorter _ _ _ _ c.loop-c.invariant c.loop-c-test.true _ _ c.line_from-read.ensures c.check.ensures c.in_ok-check.was,
    )

pub loop-c-preserved : goal.loop-c-preserved
loop-c-preserved c =
    step_more _ _ _ _ c.loop-c.invariant c.loop-c-test.true _ _ c.line_from-read.ensures c.check.ensures _ c.in_ok-check.was c.add.ensures

pub record_refusal-requires : goal.record_refusal-requires
record_refusal-requires c =
    let counts = c.loop-c.invariant.kept.counts in
    (counts.segments, counts.partitions)

pub returns-in_err-record_refusal : goal.returns-in_err-record_refusal
returns-in_err-record_refusal c =
    let p = err_from_is_err_and c.from_residual-in_err-record_refusal.result c.from_residual-in_err-record_refusal.ensures.1 in
    rw (p.1, p.2)
    (end_refused _ _ _ _ c.loop-c.invariant c.loop-c-test.false _ c.record_refusal.ensures.refusal _ c.in_err-record_refusal.was)

pub returns : goal.returns
returns c = end_accepted _ _ _ _ c.loop-c.invariant c.loop-c-test.false _ c.record_refusal.ensures.refusal c.in_ok-record_refusal.was
