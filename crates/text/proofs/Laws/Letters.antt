-- The lines of a text give no mode over 3: a right line has its mode from the letters r, w and rw.
use Prim.Native.Nat.{ℕ, ◌≤◌}
use mathlib.Core.Path.{◌≡◌, refl}
use mathlib.Core.Bool.{Bool, true, false, cond}
use mathlib.Core.List.{List, [], ◌∷◌}
use native.Mathlib.Omega.{arith}
use Rattle.std.specs.Prelude.{Option, Some, None}
use Rattle.text.specs.Bytes.{bytes_of, same}
use Rattle.text.specs.Cut.{cut, fields_of, line_end}
use Rattle.text.specs.Number.{letters}
use Rattle.text.specs.Lines.{given, next_field, last, segment_line, partition_line, right_line, flow_line, slot_line, word_of, line_of_kind, line_of_word, line_by, lines_of_pieces, lines_by}
use Rattle.text.specs.declared.line.Kind.{Kind}
use Rattle.text.specs.declared.line.Kind.TheVariants.{Segment as OfSegment, Partition as OfPartition, Right as OfRight, Flow as OfFlow, Slot as OfSlot}
use Rattle.text.specs.declared.line.Line.{Line}
use Rattle.text.specs.declared.line.Line.TheVariants.{Bad, Segment, Partition, Right, Flow, Slot}

abbrev pub Lettered : Line → Type 0
Lettered Bad = Unit
Lettered (Segment id base size) = Unit
Lettered (Partition id code save) = Unit
Lettered (Right partition segment mode) = mode ≤ 3
Lettered (Flow from to) = Unit
Lettered (Slot partition ticks) = Unit

abbrev pub AllLettered : List Line → Type 0
AllLettered [] = Unit
AllLettered (line ∷ lines) = Lettered line × AllLettered lines

letters_few : (f : List ℕ) (n : ℕ) → letters f ≡ Some n → n ≤ 3
unfolding letters
letters_few f n = go (same f (bytes_of "r")) (same f (bytes_of "w")) (same f (bytes_of "rw"))
  where
    go : (a b c : Bool) → cond a (Some 1) (cond b (Some 2) (cond c (Some 3) None)) ≡ Some n → n ≤ 3
    go true b c e = let q : 1 ≡ n = cc in omega arith
    go false true c e = let q : 2 ≡ n = cc in omega arith
    go false false true e = let q : 3 ≡ n = cc in omega arith
    go false false false e = let q : ◌≡◌ {A = ℕ} 0 1 = cc in omega arith

-- the next field, whatever it says
module _ (read : List ℕ → Option ℕ) (few : ℕ → Type 0) (is : (f : List ℕ) (n : ℕ) → read f ≡ Some n → few n) where
  next_lettered : (fs : List (List ℕ)) (more : ℕ → List (List ℕ) → Line) →
      ((n : ℕ) → few n → (fs : List (List ℕ)) → Lettered (more n fs)) → Lettered (next_field read fs more)
  next_lettered [] more h = tt
  next_lettered (f ∷ fs) more h = go (read f) refl
    where
      go : (a : Option ℕ) → read f ≡ a → Lettered (given a (λ n. more n fs))
      go None e = tt
      go (Some n) e = h n (is f n e) fs

last_lettered : (fs : List (List ℕ)) (line : Line) → Lettered line → Lettered (last fs line)
last_lettered [] line h = h
last_lettered (f ∷ fs) line h = tt

-- The lines that any reader of numbers gives.
module _ (read : List ℕ → Option ℕ) where
  number_lettered : (fs : List (List ℕ)) (more : ℕ → List (List ℕ) → Line) →
      ((n : ℕ) (fs : List (List ℕ)) → Lettered (more n fs)) → Lettered (next_field read fs more)
  number_lettered fs more h = next_lettered read (λ n. Unit) (λ f n e. tt) fs more (λ n u fs. h n fs)

  module _ (fs : List (List ℕ)) where
    segment_lettered : Lettered (segment_line read fs)
    unfolding segment_line
    segment_lettered =
        number_lettered fs _ λ id fs. number_lettered fs _ λ base fs. number_lettered fs _ λ size fs.
        last_lettered fs (Segment id base size) tt

    partition_lettered : Lettered (partition_line read fs)
    unfolding partition_line
    partition_lettered =
        number_lettered fs _ λ id fs. number_lettered fs _ λ code fs. number_lettered fs _ λ save fs.
        last_lettered fs (Partition id code save) tt

    right_lettered : Lettered (right_line read fs)
    unfolding right_line
    right_lettered =
        number_lettered fs _ λ partition fs. number_lettered fs _ λ segment fs.
        next_lettered letters (λ n. n ≤ 3) letters_few fs _ λ mode few fs. last_lettered fs (Right partition segment mode) few

    flow_lettered : Lettered (flow_line read fs)
    unfolding flow_line
    flow_lettered = number_lettered fs _ λ from fs. number_lettered fs _ λ to fs. last_lettered fs (Flow from to) tt

    slot_lettered : Lettered (slot_line read fs)
    unfolding slot_line
    slot_lettered = number_lettered fs _ λ partition fs. number_lettered fs _ λ ticks fs. last_lettered fs (Slot partition ticks) tt

  kind_lettered : (kind : Kind) (fs : List (List ℕ)) → Lettered (line_of_kind read kind fs)
  kind_lettered OfSegment fs = segment_lettered fs
  kind_lettered OfPartition fs = partition_lettered fs
  kind_lettered OfRight fs = right_lettered fs
  kind_lettered OfFlow fs = flow_lettered fs
  kind_lettered OfSlot fs = slot_lettered fs

  word_lettered : (kind : Option Kind) (fs : List (List ℕ)) → Lettered (line_of_word read kind fs)
  word_lettered (Some kind) fs = kind_lettered kind fs
  word_lettered None fs = tt

  pub line_lettered : (fs : List (List ℕ)) → Lettered (line_by read fs)
  unfolding line_by
  line_lettered [] = tt
  line_lettered (word ∷ fs) = word_lettered (word_of word) fs

  pieces_lettered : (ps : List (List ℕ)) → AllLettered (lines_of_pieces read ps)
  unfolding lines_of_pieces
  pieces_lettered [] = tt
  pieces_lettered ([] ∷ []) = tt
  pieces_lettered ((b ∷ bs) ∷ []) = (tt, tt)
  pieces_lettered (p ∷ q ∷ ps) = (line_lettered (fields_of p), pieces_lettered (q ∷ ps))

  pub lines_lettered : (text : List ℕ) → AllLettered (lines_by read text)
  unfolding lines_by
  lines_lettered text = pieces_lettered (cut line_end text)
