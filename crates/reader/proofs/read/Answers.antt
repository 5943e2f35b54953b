-- A text over the limit is refused by 1; any other is read line by line.
use borrow.Author.Tests.{lt-ltb, le-ltb}
use Rattle.policy.specs.Limits.{single}
use Rattle.policy.specs.Read.{read_by}
use Rattle.reader.proofs.read.Goals as goal

pub returns-then-text-gt-TEXT : goal.returns-then-text-gt-TEXT
unfolding read_by
returns-then-text-gt-TEXT c = rw (lt-ltb single.text _ c.if-text-gt-TEXT.true)

pub returns : goal.returns
unfolding read_by
returns c = rw (le-ltb _ _ c.if-text-gt-TEXT.false) c.read_lines.ensures
