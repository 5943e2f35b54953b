-- One part after another, which the buffer has room for.
use Rattle.std.proofs.Common.{length, ap, arith, rules}
use lib.ListN.{length-append}
use Rattle.writing.proofs.Laws.Writer.{adds_then, adds_filled, room_left}
use Rattle.reaching.proofs.words.put_words.Goals as goal

pub put_word-requires-2 : goal.put_word-requires-2
put_word-requires-2 c =
    omega (arith, ap length c.new-writer.ensures.nothing_written.1, room_left c.put_word.ensures, room_left c.put_byte.ensures)

pub put_byte-requires-2 : goal.put_byte-requires-2
put_byte-requires-2 c =
    omega (arith, ap length c.new-writer.ensures.nothing_written.1, room_left c.put_word.ensures, room_left c.put_byte.ensures, room_left c.put_word-2.ensures)

pub returns : goal.returns
returns c =
    let line = adds_then c.put_word.ensures (adds_then c.put_byte.ensures (adds_then c.put_word-2.ensures c.put_byte-2.ensures)) in
    let most = length c.args.out.now in
    let all = adds_filled most c.new-writer.ensures.nothing_written line (simp length-append (omega arith)) (omega arith) c.len.ensures in
    (all.0, search rules, search (rules, all.2))
