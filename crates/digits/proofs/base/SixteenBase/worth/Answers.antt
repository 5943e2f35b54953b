-- 0 to 9 first, then a to f; what passes neither test is no digit.
use Rattle.text.specs.Digits.{digit_worth}
use Rattle.digits.proofs.base.SixteenBase.worth.Goals as goal

pub returns-then-b : goal.returns-then-b
unfolding digit_worth
returns-then-b c = rw c.if-b.true

pub returns-then-b-2 : goal.returns-then-b-2
unfolding digit_worth
returns-then-b-2 c = rw (c.if-b.false, c.if-b-2.true)

pub returns : goal.returns
unfolding digit_worth
returns c = rw (c.if-b.false, c.if-b-2.false)
