-- A sound record's partitions, their save segments and the bytes of these are in range.
use Rattle.std.proofs.Common.{◌≡◌, get_or, arith}
use Rattle.policy.specs.Limits.{single, save_size}
use Rattle.policy.specs.Record.{tables_of}
use Rattle.policy.proofs.Lawful.{lawful}
use Rattle.kernel.proofs.save.save_from.Goals as goal

pub bounds-policy-partition : goal.bounds-policy-partition
bounds-policy-partition c = omega (arith, (lawful single (tables_of c.args.policy.now) c.requires.sound).few_partitions)

pub bounds-policy-from : goal.bounds-policy-from
bounds-policy-from c =
    let w = lawful single (tables_of c.args.policy.now) c.requires.sound in
    omega (arith, w.save_there c.args.partition c.requires.there, w.few_segments)

pub returns-clause-inside : goal.returns-clause-inside
returns-clause-inside c =
    let w = lawful single (tables_of c.args.policy.now) c.requires.sound in
    let save = get_or c.args.policy.now.save c.args.partition 0 in
    let size : get_or c.args.policy.now.size save 0 ≡ save_size = w.save_size c.args.partition c.requires.there in
    rw (c.from-2.ensures, c.from.ensures) (rw size at (w.inside save (w.save_there c.args.partition c.requires.there)))
