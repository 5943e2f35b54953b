-- A byte is a decimal digit just if the difference from "0", which wraps around, is at most 9.
use Rattle.std.proofs.Common.{arith}
use Rattle.text.proofs.Laws.Scan.{ten_worth, ten_other}
use Rattle.digits.proofs.base.TenBase.worth.Goals as goal

pub returns-then-d-lt10 : goal.returns-then-d-lt10
returns-then-d-lt10 c = ten_worth c.args.b (omega arith) c.if-d-lt10.true

pub returns-else-d-lt10 : goal.returns-else-d-lt10
returns-else-d-lt10 c = ten_other c.args.b (omega arith) c.if-d-lt10.false
