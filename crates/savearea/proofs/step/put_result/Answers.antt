-- The word is put, then the counter moved, as the definition does; the word lies before the counter.
use mathlib.Core.Path.{sym, ◌∙◌}
use Rattle.machine.specs.Local.{resulted}
use Rattle.savearea.proofs.Laws.Counters.{counter-register}
use borrow.Author.Rules.{rules}
use Rattle.savearea.proofs.step.put_result.Goals as goal

pub advance-requires : goal.advance-requires
advance-requires c =
    let put = c in
    let start = put in
    (rw put.put_word_in.ensures (start.requires.0 ∙ sym (counter-register _ _ _ start.requires.2)), search rules)

pub returns : goal.returns
unfolding resulted
returns c =
    let advance = c in
    (rw (advance.advance.ensures.0, advance.put_word_in.ensures), advance.advance.ensures.1)
