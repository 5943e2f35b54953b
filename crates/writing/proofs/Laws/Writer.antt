-- Bytes added one after the other are those of both added at once, and what is added fills the buffer from its start on.
use Rattle.std.proofs.Common.{◌≡◌, ℕ, ◌-◌, ◌≤◌, List, [], ◌++◌, length, drop, refl, sym, ap, ◌∙◌, append_assoc, arith}
use Rattle.std.proofs.lemmas.List.{append-nil, drop-drop, length-append, length-drop, take-append-drop}
use native.Mathlib.Nat.{zero-add}
use Rattle.std.proofs.lemmas.List.Edits.{sets-eq}
use Rattle.writing.specs.declared.writer.Writer.{Writer}
use Rattle.writing.specs.Writer.{written, rest, room, Adds, Filled}

pub adds_none : (w : Writer) → Adds w [] w
adds_none w = record { same_buffer = refl; text = sym (append-nil _); untouched = refl }

pub adds_then : {u v w : Writer} {a b : List ℕ} → Adds u a v → Adds v b w → Adds u (a ++ b) w
adds_then {u} {v} {w} {a} {b} first second =
    record {
      same_buffer = second.same_buffer ∙ first.same_buffer;
      text = second.text ∙ rw (first.text, append_assoc);
      untouched = second.untouched ∙ rw (first.untouched, drop-drop, length-append);
    }

-- What is added is taken from the room.
pub room_left : {u v : Writer} {a : List ℕ} → Adds u a v → room v ≡ room u - length a
room_left {u} {v} {a} added = ap length added.untouched ∙ length-drop (length a) (rest u)

-- From the buffer's start on: all that is written fills the buffer, where it fits.
pub adds_filled : {u v : Writer} {l b : List ℕ} {n : ℕ} (most : ℕ) → (written u ≡ []) × (rest u ≡ l) → Adds u b v →
    length b ≤ most → most ≤ length l → n ≡ length (written v) → Filled b most l v.out.now n
adds_filled {u} {v} {l} {b} most start added fits long e =
    let text : written v ≡ b = added.text ∙ rw start.0 in
    let behind : rest v ≡ drop (length b) l = added.untouched ∙ rw start.1 in
    let count = e ∙ ap length text in
    (count, omega (arith, count), sym (take-append-drop v.at v.out.now) ∙ rw (text, behind, ← zero-add (length b)) (sym (sets-eq b l 0 (omega arith))))
