-- The counter handed in, put with 4 added; modulo 65,536 that is what is read there.
use Prim.Native.Nat.{◌+◌}
use mathlib.Core.Path.{sym}
use Rattle.machine.specs.Local.{advanced}
use Rattle.savearea.proofs.Laws.Counters.{counter_put}
use Rattle.savearea.proofs.step.advance.Goals as goal

pub returns : goal.returns
unfolding advanced
returns c =
    let put = c in
    let start = put in
    (rw (put.put_half.ensures, start.requires.0), rw put.put_half.ensures (sym (counter_put _ (start.args.pc + 4) start.requires.1)))
