-- Each word is read where the one before left the place.
use Rattle.std.proofs.Common.{Some, sym, ap, ◌∙◌}
use Rattle.reaching.specs.Question.{both_words}
use Rattle.reaching.proofs.Laws.Words.{words_none, words_both, words_missing, first_missing, both_none}
use Rattle.reaching.proofs.words.words_in.Goals as goal

pub returns-in_err-from : goal.returns-in_err-from
returns-in_err-from c = rw c.from_residual.ensures (first_missing _ c.read_inner.ensures c.in_err-from.was)

pub returns-in_err-to : goal.returns-in_err-to
returns-in_err-to c =
    rw c.from_residual-in_err-to.ensures
    (words_missing _ c.read_inner.ensures c.read_last.ensures
    (ap (both_words c.read_inner.result) c.in_err-to.was ∙ both_none c.read_inner.result))

pub returns-then-place-words : goal.returns-then-place-words
returns-then-place-words c = words_none _ c.read_inner.ensures c.read_last.ensures c.if-place-words.true

pub returns : goal.returns
returns c =
    sym
    (ap (λ o. both_words o c.read_last.result) c.in_ok-from.was ∙ ap (both_words (Some c.in_ok-from.from)) c.in_ok-to.was)
    ∙ words_both _ c.read_inner.ensures c.read_last.ensures c.if-place-words.false
