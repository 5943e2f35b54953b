-- The measure is the number.
use Rattle.writing.proofs.writer.Writer.+put_number.Given as goal

abbrev pub decreases-put_number : goal.decreases-put_number
decreases-put_number l = l.n
