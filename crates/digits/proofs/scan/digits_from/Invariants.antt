-- The digits from the start are those passed and those from the place reached on: the loop's invariant.
use Rattle.std.proofs.Common.{◌≡◌, ◌≤◌, max, length, drop}
use Rattle.text.specs.Digits.{digits_read}
use Rattle.text.proofs.Laws.Scan.{digits_on}
use Rattle.digits.proofs.scan.digits_from.Given as goal

abbrev pub invariant-loop-i : goal.invariant-loop-i
invariant-loop-i g l =
    (digits_read g.B.Base.form l.text l.from ≡ digits_on g.B.Base.form l.value l.i (drop l.i l.text))
    × (l.i ≤ max l.from (length l.text))
