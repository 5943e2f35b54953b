-- Lists of masks: a bit set in one of them is set in no other place, and the test of each entry is a bound on each.
use Prim.Native.Nat.{ℕ, zero, suc, ◌^◌, ◌<◌}
use mathlib.Core.Path.{◌≡◌, refl, sym}
use mathlib.Core.Bool.{Bool, true, false, cond, ◌&&◌, ◌||◌, or-false}
use mathlib.Core.List.{List, [], ◌∷◌}
use native.Mathlib.Decide.{ℕ_discrete}
use borrow.Author.Tests.{eq-eqb, ne_eqb, ltb-true, lt-ltb}
use lib.ListN.{length, get_or}
use lib.Seq.{get_or-set_other}
use lib.Pow.{pow_pos}
use lib.Dec.{eqb, ltb}
use Rattle.bits.specs.Masks.{has, AllUnder}
use Rattle.bits.proofs.Laws.Masks.{has-with, with-under}
use Rattle.policy.specs.Draft.{with_bit_at}
use Rattle.policy.specs.Sound.{all_under}
use Rattle.policy.proofs.Laws.Bools.{and_left, and_right}
use Rattle.policy.proofs.Laws.Stored.{stored_long, stored_at}

module _ (masks : List ℕ) (n : ℕ) (long : length masks ≡ n) (k s : ℕ) (there : k < n) where
  pub bit_at : (q u : ℕ) → has (get_or (with_bit_at masks k s) q 0) u ≡ has (get_or masks q 0) u || eqb q k && eqb u s
  bit_at q u = go (ℕ_discrete q k)
    where
      go : Dec (q ≡ k) → has (get_or (with_bit_at masks k s) q 0) u ≡ has (get_or masks q 0) u || eqb q k && eqb u s
      go (yes e) = rw (e, stored_at masks k _ n long there, eq-eqb k k refl) (has-with (get_or masks k 0) s u)
      go (no d) = rw (get_or-set_other masks k q _ 0 d, ne_eqb q k d, or-false)

  pub bit_long : length (with_bit_at masks k s) ≡ n
  bit_long = stored_long masks k _ n long

  pub bit_under : (width : ℕ) → s < width → AllUnder width masks → AllUnder width (with_bit_at masks k s)
  bit_under width l h i = go (ℕ_discrete i k)
    where
      go : Dec (i ≡ k) → get_or (with_bit_at masks k s) i 0 < 2 ^ width
      go (yes e) = rw (e, stored_at masks k _ n long there) (with-under width (get_or masks k 0) s (h k) l)
      go (no d) = rw (get_or-set_other masks k i _ 0 d) (h i)

  -- A bit that is set under a condition.
  pub bit_where : (b : Bool) (q u : ℕ) →
      has (get_or (cond b (with_bit_at masks k s) masks) q 0) u ≡ has (get_or masks q 0) u || b && (eqb q k && eqb u s)
  bit_where true q u = bit_at q u
  bit_where false q u = sym (or-false _)

  pub long_where : (b : Bool) → length (cond b (with_bit_at masks k s) masks) ≡ n
  long_where true = bit_long
  long_where false = long

  pub under_where : (b : Bool) (width : ℕ) → s < width → AllUnder width masks →
      AllUnder width (cond b (with_bit_at masks k s) masks)
  under_where true width l h = bit_under width l h
  under_where false width l h = h

module _ (n : ℕ) where
  pub under_at : (masks : List ℕ) → all_under (2 ^ n) masks ≡ true → AllUnder n masks
  unfolding all_under
  under_at [] h i = pow_pos n
  under_at (m ∷ ms) h zero = ltb-true m (2 ^ n) (and_left (ltb m (2 ^ n)) (all_under (2 ^ n) ms) h)
  under_at (m ∷ ms) h (suc i) = under_at ms (and_right (ltb m (2 ^ n)) (all_under (2 ^ n) ms) h) i

  pub under_of : (masks : List ℕ) → AllUnder n masks → all_under (2 ^ n) masks ≡ true
  unfolding all_under
  under_of [] h = refl
  under_of (m ∷ ms) h = rw (lt-ltb m (2 ^ n) (h 0), under_of ms (λ i. h (suc i)))
