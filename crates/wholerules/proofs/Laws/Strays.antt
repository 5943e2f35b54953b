-- One `and` decides whether a mask has a bit that another has not; so of the sources of a save segment and what its partition reads.
use Prim.Native.Nat.{ℕ, ◌^◌, ◌<◌}
use mathlib.Core.Path.{◌≡◌, refl, sym, ◌∙◌}
use mathlib.Core.Bool.{Bool, true, false, ◌&&◌, ◌||◌, not, and-true, true≢false}
use native.Mathlib.Nat.{lt_of_le_of_lt}
use lib.Bits.{bit_and, and_le_r}
use lib.Dec.{eqb}
use borrow.Author.Tests.{eq-eqb, ne_eqb, not-true, not-false}
use Rattle.bits.specs.Masks.{has, mask_of}
use Rattle.bits.proofs.Laws.Masks.{has-and, mask_under, within_at, within_of}
use Rattle.bits.proofs.Laws.Sets.{has_below}
use Rattle.policy.specs.Below.{some_below}
use Rattle.policy.proofs.Laws.Below.{none_at, some_at, some_same}
use Rattle.policy.proofs.Laws.Bools.{and_left, and_right}

pub mask_strays : (n a b : ℕ) → a < 2 ^ n → not (eqb (bit_and a b) a) ≡ some_below n (λ s. has a s && not (has b s))
mask_strays n a b l = go (some_below n strays) refl
  where
    strays : ℕ → Bool
    strays s = has a s && not (has b s)

    go : (x : Bool) → some_below n strays ≡ x → not (eqb (bit_and a b) a) ≡ some_below n strays
    go true e =
        let k = some_at strays n e in
        let s = k.number in
        let in-a = and_left (has a s) (not (has b s)) k.passes in
        let not-b = not-true _ (and_right (has a s) (not (has b s)) k.passes) in
        rw (ne_eqb (bit_and a b) a (λ q. true≢false (sym (within_at a b q s in-a) ∙ not-b)), e)
    go false e =
        let all = within_of n a b l (λ s k h. not-false _ (rw h at (none_at strays n e s k))) in
        rw (eq-eqb (bit_and a b) a all, e)

-- What p reaches is the mask `reach`, of save segment k and mask m; f is the mask of the sources of k.
pub sources_told : (n there reach from k m f : ℕ) → there ≡ mask_of n (λ s. true) → reach ≡ mask_of n (λ s. eqb s k || has m s) → from ≡ f →
    not (eqb (bit_and (bit_and from there) reach) (bit_and from there)) ≡ some_below n (λ s. has f s && not (eqb s k || has m s))
sources_told n there reach from k m f t r g =
    mask_strays n (bit_and from there) reach (lt_of_le_of_lt (and_le_r from there) (rw t (mask_under (λ s. true) n)))
    ∙ some_same (λ s. has (bit_and from there) s && not (has reach s)) (λ s. has f s && not (eqb s k || has m s)) n
    (λ s l.
    rw (
      has-and from there s,
      t,
      r,
      has_below (λ s. true) n s l,
      has_below (λ s. eqb s k || has m s) n s l,
      and-true,
      g,
    ))
