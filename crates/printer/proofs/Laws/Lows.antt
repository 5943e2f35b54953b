-- Masks filled bit by bit from zeros: of each mask the bits below a width of its own. One bit more is the step of a right line and of
-- a flow line alike.
use Prim.Native.Nat.{ℕ, zero, suc, ◌<◌, ◌%◌, ◌^◌}
use mathlib.Core.Path.{◌≡◌, refl, sym, ◌∙◌, ap}
use mathlib.Core.Bool.{Bool, true, false, cond}
use mathlib.Core.List.{List, [], ◌∷◌}
use native.Mathlib.Nat.{mod-eq_of_lt, mod-one, zero-mod}
use native.Mathlib.Omega.{arith}
use native.Mathlib.Decide.{ℕ_discrete}
use lib.ListN.{length, get_or, replicate, length-set}
use lib.Seq.{ext_get_or, get_or-set_same, get_or-set_other}
use Rattle.bits.specs.Masks.{has, with_bit, AllUnder}
use Rattle.bits.proofs.Laws.Masks.{low_more}
use Rattle.policy.specs.Draft.{with_bit_at}

unfoldable pub lows : (ℕ → ℕ) → List ℕ → List ℕ
lows w [] = []
lows w (m ∷ ms) = m % 2 ^ w 0 ∷ lows (λ k. w (suc k)) ms

length_lows : (w : ℕ → ℕ) (masks : List ℕ) → length (lows w masks) ≡ length masks
unfolding lows
length_lows w [] = refl
length_lows w (m ∷ ms) = ap suc (length_lows (λ k. w (suc k)) ms)

lows_at : (w : ℕ → ℕ) (masks : List ℕ) (k : ℕ) → get_or (lows w masks) k 0 ≡ get_or masks k 0 % 2 ^ w k
unfolding lows
lows_at w [] k = sym (zero-mod (2 ^ w k))
lows_at w (m ∷ ms) zero = refl
lows_at w (m ∷ ms) (suc k) = lows_at (λ k. w (suc k)) ms k

-- Only the widths of the masks that are there count.
pub lows_same : (v w : ℕ → ℕ) (masks : List ℕ) → ((k : ℕ) → k < length masks → v k ≡ w k) → lows v masks ≡ lows w masks
unfolding lows
lows_same v w [] h = refl
lows_same v w (m ∷ ms) h =
    rw (h 0 (omega arith), lows_same (λ k. v (suc k)) (λ k. w (suc k)) ms (λ k l. h (suc k) (omega arith)))

-- No bit, and all of them.
pub lows_none : (n : ℕ) (masks : List ℕ) → length masks ≡ n → lows (λ k. 0) masks ≡ replicate n 0
unfolding lows
lows_none zero [] e = refl
lows_none zero (m ∷ ms) e = absurd (omega arith)
lows_none (suc n) [] e = absurd (omega arith)
lows_none (suc n) (m ∷ ms) e = rw (mod-one m, lows_none n ms (omega arith))

pub lows_all : (n : ℕ) (masks : List ℕ) → AllUnder n masks → lows (λ k. n) masks ≡ masks
unfolding lows
lows_all n [] h = refl
lows_all n (m ∷ ms) h = rw (mod-eq_of_lt (h 0), lows_all n ms (λ i. h (suc i)))

pub cond_same : (b : Bool) (n : ℕ) → cond b n n ≡ n
cond_same true n = refl
cond_same false n = refl

-- One mask has one bit more.
module _ (w v : ℕ → ℕ) (masks : List ℕ) (i s : ℕ) (l : i < length masks) where
  with_at : (b : Bool) (k : ℕ) → get_or (cond b (with_bit_at (lows w masks) i s) (lows w masks)) k 0
      ≡ cond b (get_or (with_bit_at (lows w masks) i s) k 0) (get_or (lows w masks) k 0)
  with_at true k = refl
  with_at false k = refl

  with-length : (b : Bool) → length (cond b (with_bit_at (lows w masks) i s) (lows w masks)) ≡ length masks
  with-length true = length-set (lows w masks) i (with_bit (get_or (lows w masks) i 0) s) ∙ length_lows w masks
  with-length false = length_lows w masks

  pub lows_more : w i ≡ s → v i ≡ suc s → ((k : ℕ) → (k ≡ i → ⊥) → w k ≡ v k) →
      cond (has (get_or masks i 0) s) (with_bit_at (lows w masks) i s) (lows w masks) ≡ lows v masks
  lows_more a b others =
      ext_get_or 0 _ _ (with-length (has (get_or masks i 0) s) ∙ sym (length_lows v masks))
      (λ k m. go k (ℕ_discrete k i))
    where
      go : (k : ℕ) → Dec (k ≡ i) →
          get_or (cond (has (get_or masks i 0) s) (with_bit_at (lows w masks) i s) (lows w masks)) k 0 ≡ get_or (lows v masks) k 0
      go k (yes e) =
          rw (
            e,
            with_at (has (get_or masks i 0) s) i,
            get_or-set_same (lows w masks) i (with_bit (get_or (lows w masks) i 0) s) 0 (omega (arith, length_lows w masks)),
            lows_at w masks i,
            lows_at v masks i,
            a,
            b,
          )
          (sym (low_more (get_or masks i 0) s))
      go k (no d) =
          rw (
            with_at (has (get_or masks i 0) s) k,
            get_or-set_other (lows w masks) i k (with_bit (get_or (lows w masks) i 0) s) 0 d,
            lows_at w masks k,
            lows_at v masks k,
            others k d,
          )
          (cond_same (has (get_or masks i 0) s) _)
