-- Pieces without the separator, joined by it, are cut into these pieces again: by induction on the bytes of the first.
use Prim.Native.Nat.{ℕ, ◌≤◌, ◌<◌}
use mathlib.Core.Path.{◌≡◌, refl, ◌∙◌, ap}
use mathlib.Core.Bool.{Bool, true, false, ◌&&◌, not, cond}
use mathlib.Core.List.{List, [], ◌∷◌, ◌++◌}
use native.Mathlib.Omega.{arith}
use borrow.Author.Tests.{eq-eqb, ne_eqb, leb-true, lt-ltb, ltb-true, not-true}
use lib.ListN.{length}
use lib.Dec.{eqb, leb, ltb}
use Rattle.text.specs.Cut.{cut, onto, tab, line_end}
use Rattle.text.specs.Number.{ten, zero_to_nine, all_digits}
use Rattle.policy.proofs.Laws.Bools.{and_left, and_right}
use Rattle.printer.specs.Printer.{parted}

-- Whether a byte stands nowhere in a list.
unfoldable pub lacks : ℕ → List ℕ → Bool
lacks b [] = true
lacks b (a ∷ l) = not (eqb a b) && lacks b l

-- Whether the bytes stand above tab and line end, as those of words, numbers and letters do.
unfoldable pub plain : List ℕ → Bool
plain [] = true
plain (a ∷ l) = ltb line_end a && plain l

unfoldable pub all_plain : List (List ℕ) → Bool
all_plain [] = true
all_plain (f ∷ fs) = plain f && all_plain fs

pub digits_plain : (l : List ℕ) → all_digits ten l ≡ true → plain l ≡ true
unfolding plain all_digits
digits_plain [] h = refl
digits_plain (a ∷ l) h =
    let e : zero_to_nine a ≡ true = and_left (zero_to_nine a) (all_digits ten l) h in
    let least : 0x30 ≤ a = leb-true 0x30 a (and_left (leb 0x30 a) (leb a 0x39) e) in
    rw (lt-ltb line_end a (omega arith), digits_plain l (and_right (zero_to_nine a) (all_digits ten l) h))

module _ (b : ℕ) where
  plain_lacks : (l : List ℕ) → b ≤ line_end → plain l ≡ true → lacks b l ≡ true
  unfolding lacks plain
  plain_lacks [] s h = refl
  plain_lacks (a ∷ l) s h =
      let more : line_end < a = ltb-true line_end a (and_left (ltb line_end a) (plain l) h) in
      rw (ne_eqb a b (λ q. omega arith), plain_lacks l s (and_right (ltb line_end a) (plain l) h))

  head_other : (a : ℕ) (l : List ℕ) → lacks b (a ∷ l) ≡ true → eqb a b ≡ false
  unfolding lacks
  head_other a l h = not-true (eqb a b) (and_left (not (eqb a b)) (lacks b l) h)

  tail_lacks : (a : ℕ) (l : List ℕ) → lacks b (a ∷ l) ≡ true → lacks b l ≡ true
  unfolding lacks
  tail_lacks a l h = and_right (not (eqb a b)) (lacks b l) h

  lacks_joined : (l m : List ℕ) → lacks b l ≡ true → lacks b m ≡ true → lacks b (l ++ m) ≡ true
  unfolding lacks
  lacks_joined [] m h e = e
  lacks_joined (a ∷ l) m h e = rw (head_other a l h, lacks_joined l m (tail_lacks a l h) e)

  cut_whole : (l : List ℕ) → lacks b l ≡ true → cut b l ≡ l ∷ []
  unfolding cut
  cut_whole [] h = refl
  cut_whole (a ∷ l) h = rw (head_other a l h, cut_whole l (tail_lacks a l h))

  pub cut_first : (l m : List ℕ) → lacks b l ≡ true → cut b (l ++ b ∷ m) ≡ l ∷ cut b m
  unfolding cut
  cut_first [] m h = rw (eq-eqb b b refl)
  cut_first (a ∷ l) m h = rw (head_other a l h, cut_first l m (tail_lacks a l h))

  pub cut_some : (l : List ℕ) → 0 < length (cut b l)
  unfolding cut
  cut_some [] = omega arith
  cut_some (a ∷ l) = go (eqb a b) (cut b l)
    where
      go : (t : Bool) (ps : List (List ℕ)) → 0 < length (cond t ([] ∷ ps) (onto a ps))
      go true ps = omega arith
      go false [] = omega arith
      go false (p ∷ ps) = omega arith

-- A line's fields come apart at the tabs, and have no line end.
pub cut-parted : (f : List ℕ) (fs : List (List ℕ)) → plain f ≡ true → all_plain fs ≡ true → cut tab (parted f fs) ≡ f ∷ fs
unfolding parted all_plain
cut-parted f [] h e = cut_whole tab f (plain_lacks tab f (omega arith) h)
cut-parted f (g ∷ fs) h e =
    cut_first tab f (parted g fs) (plain_lacks tab f (omega arith) h)
    ∙ ap (f ∷◌) (cut-parted g fs (and_left (plain g) (all_plain fs) e) (and_right (plain g) (all_plain fs) e))

pub parted_lacks : (f : List ℕ) (fs : List (List ℕ)) → plain f ≡ true → all_plain fs ≡ true →
    lacks line_end (parted f fs) ≡ true
unfolding parted lacks all_plain
parted_lacks f [] h e = plain_lacks line_end f (omega arith) h
parted_lacks f (g ∷ fs) h e =
    lacks_joined line_end f (tab ∷ parted g fs) (plain_lacks line_end f (omega arith) h)
    (parted_lacks g fs (and_left (plain g) (all_plain fs) e) (and_right (plain g) (all_plain fs) e))
