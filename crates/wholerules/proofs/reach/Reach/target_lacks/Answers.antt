-- Where no write mask gives t, the partitions have told what is lacking. What is asked for is reached by somebody, so nothing is lacking where all
-- that is reached is allowed; elsewhere the code asks as the definition does.
use mathlib.Core.Path.{◌≡◌, sym, ◌∙◌}
use lib.Bits.{bit_and}
use borrow.Author.Tests.{eq-eqb, eqb-true}
use Rattle.wholerules.proofs.Laws.Asked.{asked_within}
use Rattle.wholerules.proofs.reach.Reach.target_lacks.Goals as goal

pub returns-then-not-has_bit : goal.returns-then-not-has_bit
returns-then-not-has_bit c =
    c.has_bit-then-not-has_bit.ensures ∙ c.requires.lackers_tell (sym c.has_bit.ensures ∙ c.if-not-has_bit.true)

pub returns-then-within : goal.returns-then-within
returns-then-within c =
    let a = c.args in
    let all = a.self.now in
    let allowed : bit_and all.all.reached a.allowed ≡ all.all.reached = eqb-true _ _ (sym c.within.ensures ∙ c.if-within.true) in
    rw (eq-eqb _ _ (asked_within all.reached.now all.written.now a.t all.partitions a.allowed (rw all.all_joined at allowed)))

pub returns : goal.returns
returns c = rw (c.within-2.ensures, c.asked_into.ensures)
