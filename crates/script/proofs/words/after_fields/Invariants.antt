-- Each turn leaves a field off.
use Rattle.std.proofs.Common.{◌≤◌, length}
use Rattle.script.proofs.words.after_fields.Given as goal

abbrev pub invariant-loop : goal.invariant-loop
invariant-loop l = length l.rest ≤ length l.text
