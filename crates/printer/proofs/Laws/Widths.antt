-- How many bits of each mask are in while right and flow lines are read: none at first, one more at each pair, and all in the end.
use Prim.Native.Nat.{ℕ, suc, ◌<◌}
use mathlib.Core.Path.{◌≡◌, refl, ◌∙◌}
use mathlib.Core.Bool.{cond}
use mathlib.Core.List.{List}
use native.Mathlib.Omega.{arith}
use native.Mathlib.Decide.{dec_lt, ℕ_discrete}
use borrow.Author.Tests.{lt-ltb, le-ltb, eq-eqb, ne_eqb}
use lib.ListN.{length, get_or, replicate}
use lib.Dec.{eqb, ltb}
use Rattle.bits.specs.Masks.{has, AllUnder}
use Rattle.policy.specs.Draft.{with_bit_at}
use Rattle.printer.proofs.Laws.Lows.{lows, lows_same, lows_none, lows_all, lows_more, cond_same}

-- Right lines come by partition: those before p have all n bits, p those below s.
abbrev pub right_width : ℕ → ℕ → ℕ → ℕ → ℕ
right_width n p s k = cond (ltb k p) n (cond (eqb k p) s 0)

-- Flow lines come by source, and masks are by target: the targets before u have bit s already.
abbrev pub flow_width : ℕ → ℕ → ℕ → ℕ
flow_width s u k = cond (ltb k u) (suc s) s

-- Of right lines, for the masks of one letter.
module _ (n parts : ℕ) (masks : List ℕ) (long : length masks ≡ parts) where
  pub right_none : lows (right_width n 0 0) masks ≡ replicate parts 0
  right_none =
      lows_same (right_width n 0 0) (λ k. 0) masks (λ k l. rw (le-ltb k 0 (omega arith)) (cond_same (eqb k 0) 0))
      ∙ lows_none parts masks long

  pub right_row : (p : ℕ) → lows (right_width n p n) masks ≡ lows (right_width n (suc p) 0) masks
  right_row p =
      lows_same (right_width n p n) (right_width n (suc p) 0) masks
      (λ k l. rw (cond_same (eqb k (suc p)) 0) (go k (dec_lt k p) (ℕ_discrete k p)))
    where
      go : (k : ℕ) → Dec (k < p) → Dec (k ≡ p) → right_width n p n k ≡ cond (ltb k (suc p)) n 0
      go k (yes l) d = rw (lt-ltb k p l, lt-ltb k (suc p) (omega arith))
      go k (no l) (yes e) = rw (le-ltb k p (omega arith), eq-eqb k p e, lt-ltb k (suc p) (omega arith))
      go k (no l) (no d) = rw (le-ltb k p (omega arith), ne_eqb k p d, le-ltb k (suc p) (omega arith))

  pub right_all : AllUnder n masks → lows (right_width n parts 0) masks ≡ masks
  right_all h =
      lows_same (right_width n parts 0) (λ k. n) masks (λ k l. rw (lt-ltb k parts (omega arith))) ∙ lows_all n masks h

  pub right_more : (p s : ℕ) → p < parts →
      cond (has (get_or masks p 0) s) (with_bit_at (lows (right_width n p s) masks) p s) (lows (right_width n p s) masks)
      ≡ lows (right_width n p (suc s)) masks
  right_more p s l =
      lows_more (right_width n p s) (right_width n p (suc s)) masks p s (omega arith)
      (rw (le-ltb p p (omega arith), eq-eqb p p refl))
      (rw (le-ltb p p (omega arith), eq-eqb p p refl))
      (λ k d. rw (ne_eqb k p d))

-- Of flow lines.
module _ (n : ℕ) (masks : List ℕ) (long : length masks ≡ n) where
  pub flow_none : lows (flow_width 0 0) masks ≡ replicate n 0
  flow_none =
      lows_same (flow_width 0 0) (λ k. 0) masks (λ k l. rw (le-ltb k 0 (omega arith))) ∙ lows_none n masks long

  pub flow_row : (s : ℕ) → lows (flow_width s n) masks ≡ lows (flow_width (suc s) 0) masks
  flow_row s =
      lows_same (flow_width s n) (flow_width (suc s) 0) masks
      (λ k l. rw (lt-ltb k n (omega arith), le-ltb k 0 (omega arith)))

  pub flow_all : AllUnder n masks → lows (flow_width n 0) masks ≡ masks
  flow_all h =
      lows_same (flow_width n 0) (λ k. n) masks (λ k l. rw (le-ltb k 0 (omega arith))) ∙ lows_all n masks h

  pub flow_more : (s u : ℕ) → u < n →
      cond (has (get_or masks u 0) s) (with_bit_at (lows (flow_width s u) masks) u s) (lows (flow_width s u) masks)
      ≡ lows (flow_width s (suc u)) masks
  flow_more s u l =
      lows_more (flow_width s u) (flow_width s (suc u)) masks u s (omega arith)
      (rw (le-ltb u u (omega arith)))
      (rw (lt-ltb u (suc u) (omega arith)))
      (λ k d. go k d (dec_lt k u))
    where
      go : (k : ℕ) → (k ≡ u → ⊥) → Dec (k < u) → flow_width s u k ≡ flow_width s (suc u) k
      go k d (yes m) = rw (lt-ltb k u m, lt-ltb k (suc u) (omega arith))
      go k d (no m) = rw (le-ltb k u (omega arith), le-ltb k (suc u) (omega arith))
