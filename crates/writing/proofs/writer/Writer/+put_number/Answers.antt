-- The digits of the tenth part and then the last digit are the digits.
use Rattle.std.proofs.Common.{◌≡◌, ◌%◌, length, ap, arith}
use Rattle.writing.proofs.Laws.Writer.{adds_then, room_left}
use Rattle.writing.proofs.Laws.Digits.{digits-one, digits_more, digits_longer}
use Rattle.writing.proofs.writer.Writer.+put_number.Goals as goal
use Rattle.writing.proofs.writer.Writer.+put_number.Goals.{then-n-gt9, else-n-gt9}

pub put_number-requires : goal.put_number-requires
put_number-requires t c = omega (arith, digits_longer c.args.n c.if-n-gt9.true c.requires.0)

pub put_byte-requires : goal.put_byte-requires
put_byte-requires t c =
    elim c.if-n-gt9.branch [
      | then-n-gt9 w ↦ rw w.self-is (omega (arith, room_left w.put_number.ensures, digits_longer c.args.n w.if-n-gt9.true c.requires.0))
      | else-n-gt9 w ↦ rw w.self-is (omega (arith, ap length (digits-one c.args.n (omega arith))))
    ]

pub returns : goal.returns
returns t c =
    elim c.if-n-gt9.branch [
      | then-n-gt9 w ↦ rw (digits_more _ w.if-n-gt9.true c.requires.0) (adds_then w.put_number.ensures (rw w.self-is at c.put_byte.ensures))
      | else-n-gt9 w ↦
          let one : c.args.n % 10 ≡ c.args.n = omega arith in
          rw (digits-one c.args.n (omega arith)) (rw (w.self-is, one) at c.put_byte.ensures)
    ]
