-- Where a piece ends, one byte more at a time, and what is left of the text after it: by induction on the bytes.
use Prim.Native.Nat.{ℕ, zero, suc, ◌+◌, ◌-◌, ◌<◌, ◌≤◌}
use mathlib.Core.Path.{◌≡◌, refl, sym, ◌∙◌, ap}
use mathlib.Core.Bool.{Bool, true, false, cond}
use mathlib.Core.List.{List, [], ◌∷◌}
use native.Mathlib.Numerals.{add-one}
use native.Mathlib.Nat.{zero-add, add-zero, add_assoc, suc-add, add-sub_cancel_left}
use native.Mathlib.Omega.{arith}
use native.Mathlib.Decide.{dec_lt}
use borrow.Author.Tests.{lt-ltb, le-ltb, eq-eqb, ne_eqb, eqb-true, eqb-false}
use lib.Dec.{eqb, ltb, leb-suc-suc}
use lib.ListN.{length, take, drop, get_or, length-drop, drop_of_length-le}
use lib.Seq.{take-nil, drop-cons, drop-drop, get_or-drop}
use Rattle.text.specs.Cut.{cut, onto}
use Rattle.text.specs.Places.{first, piece_at, end_at}

first-onto : (b : ℕ) (ps : List (List ℕ)) → first (onto b ps) ≡ b ∷ first ps
first-onto b [] = refl
first-onto b (p ∷ ps) = refl

-- The first piece, one byte at a time.
module _ (b x : ℕ) (l : List ℕ) where
  pub first_here : x ≡ b → first (cut b (x ∷ l)) ≡ []
  unfolding cut
  first_here e = rw (eq-eqb x b e)

  pub first_more : (x ≡ b → ⊥) → first (cut b (x ∷ l)) ≡ x ∷ first (cut b l)
  unfolding cut
  first_more d = rw (ne_eqb x b d, first-onto)

module _ (b : ℕ) (s : List ℕ) (i : ℕ) where
  pub end_past : length s ≤ i → end_at b s i ≡ i
  unfolding end_at piece_at cut
  end_past h = rw (drop_of_length-le s h, add-zero)

  pub end_more : i < length s → (get_or s i 0 ≡ b → ⊥) → end_at b s i ≡ end_at b s (i + 1)
  unfolding end_at piece_at cut
  end_more h d = rw (drop-cons s i 0 h, ne_eqb (get_or s i 0) b d, first-onto, add-one) (omega arith)

pub drop-take : (n m : ℕ) (l : List ℕ) → drop n (take (n + m) l) ≡ take m (drop n l)
drop-take zero m l = rw zero-add
drop-take (suc n) m [] = rw (take-nil (suc n + m), take-nil m)
drop-take (suc n) m (x ∷ l) = rw suc-add (drop-take n m l)

module _ (b : ℕ) where
  pub piece_within : (l : List ℕ) → length (first (cut b l)) ≤ length l
  unfolding cut
  piece_within [] = omega arith
  piece_within (x ∷ l) = go (eqb x b) (piece_within l)
    where
      go :
          (t : Bool) → length (first (cut b l)) ≤ length l
          → length (first (cond t ([] ∷ cut b l) (onto x (cut b l)))) ≤ suc (length l)
      go true h = omega arith
      go false h = rw first-onto (omega arith)

  pub piece_front : (l : List ℕ) → take (length (first (cut b l))) l ≡ first (cut b l)
  unfolding cut
  piece_front [] = refl
  piece_front (x ∷ l) = go (eqb x b) (piece_front l)
    where
      go :
          (t : Bool) → take (length (first (cut b l))) l ≡ first (cut b l)
          → (let p = first (cond t ([] ∷ cut b l) (onto x (cut b l))) in take (length p) (x ∷ l) ≡ p)
      go true h = refl
      go false h = rw (first-onto, h)

  -- No separator stands in a piece, and one stands at its end.
  piece_free : (l : List ℕ) (j : ℕ) → j < length (first (cut b l)) → get_or l j 0 ≡ b → ⊥
  unfolding cut
  piece_free [] j h e = absurd (omega arith)
  piece_free (x ∷ l) j h e = go (eqb x b) refl (piece_free l) j h e
    where
      go :
          (t : Bool) → eqb x b ≡ t → ((j : ℕ) → j < length (first (cut b l)) → get_or l j 0 ≡ b → ⊥) → (j : ℕ)
          → j < length (first (cond t ([] ∷ cut b l) (onto x (cut b l)))) → get_or (x ∷ l) j 0 ≡ b → ⊥
      go true q f j h e = absurd (omega arith)
      go false q f zero h e = eqb-false x b q e
      go false q f (suc j) h e = f j (omega (arith, ap length (first-onto x (cut b l)))) e

  pub piece_stop : (l : List ℕ) → length (first (cut b l)) < length l → get_or l (length (first (cut b l))) 0 ≡ b
  unfolding cut
  piece_stop [] h = absurd (omega arith)
  piece_stop (x ∷ l) h = go (eqb x b) refl (piece_stop l) h
    where
      go :
          (t : Bool) → eqb x b ≡ t
          → (length (first (cut b l)) < length l → get_or l (length (first (cut b l))) 0 ≡ b)
          → (let p = first (cond t ([] ∷ cut b l) (onto x (cut b l))) in
          length p < suc (length l) → get_or (x ∷ l) (length p) 0 ≡ b)
      go true q f h = eqb-true x b q
      go false q f h = rw first-onto (f (omega (arith, ap length (first-onto x (cut b l)))))

  -- The pieces after one that ends at place k: past its separator, or none at the end.
  abbrev after : List ℕ → ℕ → List (List ℕ)
  after l k = cond (ltb k (length l)) (cut b (drop (k + 1) l)) []

  after_more : (x : ℕ) (l : List ℕ) (k : ℕ) → after (x ∷ l) (suc k) ≡ after l k
  after_more x l k = rw (leb-suc-suc, suc-add)

  onto_next :
      (x : ℕ) (l : List ℕ) (ps : List (List ℕ)) → ps ≡ first ps ∷ after l (length (first ps))
      → onto x ps ≡ first (onto x ps) ∷ after (x ∷ l) (length (first (onto x ps)))
  onto_next x l [] h = absurd (let z : ◌≡◌ {A = ℕ} 0 1 = cc in omega arith)
  onto_next x l (p ∷ ps) h = rw after_more cc

  pub cut_next : (l : List ℕ) → cut b l ≡ first (cut b l) ∷ after l (length (first (cut b l)))
  unfolding cut
  cut_next [] = refl
  cut_next (x ∷ l) = go (eqb x b) (onto_next x l (cut b l) (cut_next l))
    where
      go :
          (t : Bool) → onto x (cut b l) ≡ first (onto x (cut b l)) ∷ after (x ∷ l) (length (first (onto x (cut b l))))
          → (let ps = cond t ([] ∷ cut b l) (onto x (cut b l)) in ps ≡ first ps ∷ after (x ∷ l) (length (first ps)))
      go true h = rw (lt-ltb 0 (suc (length l)) (omega arith))
      go false h = h

  module _ (s : List ℕ) (at : ℕ) where
    pub end_least : at ≤ end_at b s at
    unfolding end_at
    end_least = omega arith

    -- No separator stands between a place and the end that is found for it, and one stands there.
    pub end_first : (i : ℕ) → at ≤ i → i < end_at b s at → get_or s i 0 ≡ b → ⊥
    unfolding end_at piece_at
    end_first i h k e =
        piece_free (drop at s) (i - at) (omega arith)
        (get_or-drop at s (i - at) 0 ∙ ap (λ (j : ℕ). get_or s j 0) (let q : at + (i - at) ≡ i = omega arith in q) ∙ e)

    pub end_there : end_at b s at < length s → get_or s (end_at b s at) 0 ≡ b
    unfolding end_at piece_at
    end_there h =
        sym (get_or-drop at s (length (first (cut b (drop at s)))) 0)
        ∙ piece_stop (drop at s) (omega (arith, length-drop at s))

    pub piece_is : take (end_at b s at - at) (drop at s) ≡ piece_at b s at
    unfolding end_at piece_at
    piece_is = rw (add-sub_cancel_left, piece_front)

    ends_inside : (k : ℕ) → ltb k (length (drop at s)) ≡ ltb (at + k) (length s)
    ends_inside k = rw length-drop (go (dec_lt (at + k) (length s)))
      where
        go : Dec (at + k < length s) → ltb k (length s - at) ≡ ltb (at + k) (length s)
        go (yes h) = rw (lt-ltb (at + k) (length s) h, lt-ltb k (length s - at) (omega arith))
        go (no h) = rw (le-ltb (at + k) (length s) (omega arith), le-ltb k (length s - at) (omega arith))

    pub cut_at :
        cut b (drop at s) ≡ piece_at b s at ∷ cond (ltb (end_at b s at) (length s)) (cut b (drop (end_at b s at + 1) s)) []
    unfolding end_at piece_at
    cut_at = rw (add_assoc, ← ends_inside, ← drop-drop) (cut_next (drop at s))

    -- From a place before that end on, the same end is found, and the rest of the piece.
    pub end_same : (d : ℕ) → at + d ≤ end_at b s at → end_at b s (at + d) ≡ end_at b s at
    end_same zero h = rw add-zero
    end_same (suc d) h = go (dec_lt (at + d) (length s)) (end_same d (omega arith))
      where
        next : at + suc d ≡ at + d + 1
        next = omega arith

        go : Dec (at + d < length s) → end_at b s (at + d) ≡ end_at b s at → end_at b s (at + suc d) ≡ end_at b s at
        go (yes k) e =
            let other = end_first (at + d) (omega arith) (omega arith) in
            ap (end_at b s) next ∙ sym (end_more b s (at + d) k other) ∙ e
        go (no k) e = absurd (omega (arith, end_past b s (at + d) (omega arith), e))

  pub piece_rest :
      (s : List ℕ) (at d : ℕ) → at + d ≤ end_at b s at → drop d (piece_at b s at) ≡ piece_at b s (at + d)
  piece_rest s at d h =
      let m = end_at b s at - (at + d) in
      let q : end_at b s at - at ≡ d + m = omega (arith, h) in
      ap (drop d) (sym (piece_is s at) ∙ ap (λ (k : ℕ). take k (drop at s)) q)
      ∙ drop-take d m (drop at s)
      ∙ rw (drop-drop, ← end_same s at d h) (piece_is s (at + d))
