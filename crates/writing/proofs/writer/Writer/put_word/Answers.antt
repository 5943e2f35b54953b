-- The word takes the place of the bytes behind those written.
use Rattle.std.proofs.Common.{refl, arith, ◌∙◌, ◌+◌, length}
use Rattle.std.proofs.lemmas.List.{drop-drop}
use Rattle.std.proofs.lemmas.Slice.{take-put_mid, drop-put_mid}
use Rattle.writing.proofs.writer.Writer.put_word.Goals as goal

pub returns : goal.returns
returns c =
    let w = c.args.self.now in
    let word = c.args.word.now in
    let end = w.at + length word in
    let copied = c.copy_from_slice.ensures.after in
    record {
      same_buffer = refl;
      text = rw copied (take-put_mid w.at _ w.out.now word end refl w.within);
      untouched = rw copied (drop-put_mid w.at _ w.out.now word end (omega arith) w.within (omega arith) ∙ rw drop-drop);
    }
