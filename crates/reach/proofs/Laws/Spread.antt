-- After the steps below k each row is the mask of the segments with a chain whose inner segments are below k.
use Prim.Native.Nat.{ℕ, zero, suc, ◌+◌, ◌<◌, ◌≤◌}
use mathlib.Core.Path.{◌≡◌, refl, ap, ◌∙◌}
use mathlib.Core.Bool.{Bool, true, false, cond, ◌&&◌, ◌||◌, or-false, and-true, and-false}
use mathlib.Core.List.{List}
use native.Mathlib.Numerals.{add-one}
use native.Mathlib.Omega.{arith}
use native.Mathlib.Decide.{dec_lt}
use lib.Bits.{bit_or, or_lt, or_zero_r}
use lib.ListN.{length, get_or, set, length-set}
use lib.Seq.{get_or-set_same, get_or-set_other}
use Rattle.bits.specs.Masks.{AllUnder, has, mask_of}
use Rattle.bits.proofs.Laws.Masks.{has-or, has_none, mask_under}
use Rattle.bits.proofs.Laws.Sets.{has_below, mask_is}
use Rattle.reach.specs.Via.{via}
use Rattle.reach.specs.Spread.{flow_in, spread_at, spread_to, spread_up}

module _ (rows : List ℕ) (k : ℕ) where
  pub to_long : (n : ℕ) → length (spread_to rows k n) ≡ length rows
  unfolding spread_to
  to_long zero = refl
  to_long (suc n) = rw length-set (to_long n)

  -- The rows ahead are as they were.
  pub to_ahead : (n t : ℕ) → n ≤ t → get_or (spread_to rows k n) t 0 ≡ get_or rows t 0
  unfolding spread_to
  to_ahead zero t l = refl
  to_ahead (suc n) t l = get_or-set_other (spread_to rows k n) n t (spread_at rows k n) 0 (λ q. omega arith) ∙ to_ahead n t (omega arith)

  -- One row more.
  pub to_more : (now : List ℕ) (t more : ℕ) → now ≡ spread_to rows k t → more ≡ cond (has (get_or now t 0) k) (get_or rows k 0) 0 →
      set now t (bit_or (get_or now t 0) more) ≡ spread_to rows k (t + 1)
  unfolding spread_at spread_to
  to_more now t more e f =
      let same : get_or now t 0 ≡ get_or rows t 0 = ap (λ l. get_or l t 0) e ∙ to_ahead t t (omega arith) in
      rw (f, same, e, add-one)

  pub to_at : (n t : ℕ) → n ≤ length rows → t < n → get_or (spread_to rows k n) t 0 ≡ spread_at rows k t
  unfolding spread_to
  to_at zero t h l = absurd (omega arith)
  to_at (suc n) t h l = go (dec_lt t n) (to_at n t (omega arith))
    where
      go : Dec (t < n) → (t < n → get_or (spread_to rows k n) t 0 ≡ spread_at rows k t) → get_or (spread_to rows k (suc n)) t 0 ≡ spread_at rows k t
      go (yes m) before = get_or-set_other (spread_to rows k n) n t (spread_at rows k n) 0 (λ q. omega arith) ∙ before m
      go (no m) before =
          let q : t ≡ n = omega arith in
          rw q (get_or-set_same (spread_to rows k n) n (spread_at rows k n) 0 (omega (arith, to_long n)))

module _ (rows : List ℕ) where
  pub up_long : (k : ℕ) → length (spread_up rows k) ≡ length rows
  unfolding spread_up
  up_long zero = refl
  up_long (suc k) = to_long (spread_up rows k) k (length rows) ∙ up_long k

  up_at : (k t : ℕ) → t < length rows → get_or (spread_up rows (suc k)) t 0 ≡ spread_at (spread_up rows k) k t
  unfolding spread_up
  up_at k t l = to_at (spread_up rows k) k (length rows) t (rw (up_long k) (omega arith)) l

  -- A row of 0 stays.
  pub up_none : (k t : ℕ) → t < length rows → get_or rows t 0 ≡ 0 → get_or (spread_up rows k) t 0 ≡ 0
  unfolding spread_up spread_at
  up_none zero t l e = e
  up_none (suc k) t l e = up_at k t l ∙ rw (up_none k t l e, has_none k)

-- A row that takes over row k, as masks of tests.
taken_over : (n k : ℕ) (f g : ℕ → Bool) → k < n →
    bit_or (mask_of n f) (cond (has (mask_of n f) k) (mask_of n g) 0) ≡ mask_of n (λ s. f s || g s && f k)
taken_over n k f g l = rw (has_below f n k l) (go (f k))
  where
    go : (b : Bool) → bit_or (mask_of n f) (cond b (mask_of n g) 0) ≡ mask_of n (λ s. f s || g s && b)
    go true =
        mask_is n _ (λ s. f s || g s && true) (or_lt n _ _ (mask_under f n) (mask_under g n))
        (λ s m. has-or (mask_of n f) (mask_of n g) s ∙ rw (has_below f n s m, has_below g n s m, and-true))
    go false =
        rw or_zero_r
        (mask_is n _ (λ s. f s || g s && false) (mask_under f n) (λ s m. has_below f n s m ∙ rw (and-false, or-false)))

module _ (sources : List ℕ) (n : ℕ) (wide : n ≤ length sources) (among : AllUnder n sources) where
  abbrev flow : ℕ → ℕ → Bool
  flow = flow_in sources

  pub up_via : (k t : ℕ) → k ≤ n → t < n → get_or (spread_up sources k) t 0 ≡ mask_of n (λ s. via flow k s t)
  unfolding spread_up spread_at via
  up_via zero t h l = mask_is n (get_or sources t 0) (λ s. flow s t) (among t) (λ s m. refl)
  up_via (suc k) t h l =
      up_at sources k t (omega arith)
      ∙ rw (up_via k t (omega arith) l, up_via k k (omega arith) h)
      (taken_over n k (λ s. via flow k s t) (λ s. via flow k s k) h)
