-- The search from t backwards: what is found has a chain to t, and what is closed under lines is all that has one.
use Prim.Native.Nat.{ℕ, zero, suc, ◌*◌, ◌/◌, ◌%◌, ◌^◌, ◌<◌, ◌≤◌}
use mathlib.Core.Path.{◌≡◌, refl, sym, ap, ◌∙◌}
use mathlib.Core.Bool.{Bool, true, false, cond, not, true≢false, or-true}
use mathlib.Core.List.{List}
use native.Mathlib.Nat.{pow-suc, mod-lt, lt_of_lt_of_le}
use native.Mathlib.Omega.{arith}
use native.Mathlib.Decide.{dec_lt}
use borrow.Author.Tests.{eqb-true}
use lib.Bits.{bit_or, bit_xor, or_lt, xor_lt}
use lib.Pow.{pow_pos, pow_mono}
use lib.Count.{count_trailing_zeros, under}
use lib.Dec.{eqb}
use lib.ListN.{get_or}
use Rattle.bits.specs.Masks.{AllUnder, has, with_bit}
use Rattle.bits.proofs.Laws.Masks.{has-or, has-xor, has-with, has_past, has_none, half-has, zero_has, with_more, with-under}
use Rattle.policy.proofs.Laws.Bools.{not_so, or_cases}
use Rattle.reach.specs.Via.{via}
use Rattle.reach.specs.Spread.{flow_in}
use Rattle.reach.proofs.Laws.Via.{later, line_then, holds}

-- The lowest bit of a mask that has one.
lowest : (k m : ℕ) → (m ≡ 0 → ⊥) → m < 2 ^ k → has m (count_trailing_zeros k m) ≡ true
unfolding count_trailing_zeros
lowest zero m some l = absurd (some (omega arith))
lowest (suc k) m some l = go (m % 2) refl (mod-lt m (omega arith)) (lowest k (m / 2))
  where
    l' : m < 2 ^ k * 2
    l' = rw pow-suc at l

    go : (d : ℕ) → m % 2 ≡ d → d < 2 →
        ((m / 2 ≡ 0 → ⊥) → m / 2 < 2 ^ k → has (m / 2) (count_trailing_zeros k (m / 2)) ≡ true) →
        has m (under d (count_trailing_zeros k (m / 2))) ≡ true
    go zero e d half = half-has m (count_trailing_zeros k (m / 2)) ∙ half (λ q. some (omega arith)) (omega arith)
    go (suc zero) e d half = sym (zero_has m) ∙ rw e
    go (suc (suc d)) e h half = absurd (omega arith)

module _ (sources : List ℕ) (n t : ℕ) where
  abbrev flow : ℕ → ℕ → Bool
  flow = flow_in sources

  -- Before a turn: what was found are segments, and so is what was looked at; each of them has a chain to t, what flows into t is among
  -- them, what was looked at is, and so is what flows into that.
  pub record Search (found looked : ℕ) : Type 0 where
    pub inside : found < 2 ^ n
    pub few : looked < 2 ^ n
    pub chains : (s : ℕ) → has found s ≡ true → via flow n s t ≡ true
    pub into : (s : ℕ) → flow s t ≡ true → has found s ≡ true
    pub within : (u : ℕ) → has looked u ≡ true → has found u ≡ true
    pub done : (u s : ℕ) → has looked u ≡ true → flow s u ≡ true → has found s ≡ true

  pub search_first : AllUnder n sources → Search (get_or sources t 0) 0
  unfolding via
  search_first among =
      record {
        inside = among t;
        few = pow_pos n;
        chains = λ s h. later flow n 0 s t (omega arith) h;
        into = λ s h. h;
        within = λ u h. absurd (true≢false (sym h ∙ has_none u));
        done = λ u s h. absurd (true≢false (sym h ∙ has_none u));
      }

  module _ (found looked : ℕ) (x : Search found looked) where
    -- All that was found was looked at, and the source isn't among it.
    pub search_done : bit_xor found looked ≡ 0 → (s : ℕ) → has found s ≡ false → false ≡ via flow n s t
    search_done e s h =
        sym (not_so (via flow n s t) (λ v. true≢false (sym (holds flow n (has found) closed n s t (omega arith) x.into v) ∙ h)))
      where
        same : (a b : Bool) → cond a (not b) b ≡ false → a ≡ true → b ≡ true
        same true true q h = refl
        same true false q h = absurd (true≢false q)
        same false b q h = absurd (true≢false (sym h))

        closed : (u s : ℕ) → u < n → has found u ≡ true → flow s u ≡ true → has found s ≡ true
        closed u s l h f =
            let none : cond (has found u) (not (has looked u)) (has looked u) ≡ false =
            sym (has-xor found looked u) ∙ ap (λ (m : ℕ). has m u) e ∙ has_none u in
            x.done u s (same (has found u) (has looked u) none h) f

    pub search_found : (s : ℕ) → has found s ≡ true → true ≡ via flow n s t
    search_found s h = sym (x.chains s h)

    -- The lowest segment that was found and not looked at, where there is one.
    pub lowest_left : (w : ℕ) → n ≤ w → (bit_xor found looked ≡ 0 → ⊥) →
        has (bit_xor found looked) (count_trailing_zeros w (bit_xor found looked)) ≡ true
    lowest_left w l some = lowest w (bit_xor found looked) some (lt_of_lt_of_le (xor_lt n found looked x.inside x.few) (pow_mono l))

    -- A segment that was found and not looked at.
    module _ (k : ℕ) (left : has (bit_xor found looked) k ≡ true) where
      differs : cond (has found k) (not (has looked k)) (has looked k) ≡ true
      differs = sym (has-xor found looked k) ∙ left

      new : (has found k ≡ true) × (has looked k ≡ false)
      new = go (has found k) refl (has looked k) refl differs
        where
          go : (a : Bool) → has found k ≡ a → (b : Bool) → has looked k ≡ b → cond a (not b) b ≡ true → (a ≡ true) × (b ≡ false)
          go true p false q h = (refl, refl)
          go true p true q h = absurd (true≢false (sym h))
          go false p true q h = absurd (true≢false (sym (x.within k q) ∙ p))
          go false p false q h = absurd (true≢false (sym h))

      pub new_there : k < n
      new_there = go (dec_lt k n)
        where
          go : Dec (k < n) → k < n
          go (yes l) = l
          go (no l) = absurd (true≢false (sym new.0 ∙ has_past n found k x.inside (omega arith)))

      pub new_more : looked < with_bit looked k
      new_more = with_more looked k new.1

      more : (s : ℕ) → has found s ≡ true → has (bit_or found (get_or sources k 0)) s ≡ true
      more s h = has-or found (get_or sources k 0) s ∙ rw h

      added : (s : ℕ) → flow s k ≡ true → has (bit_or found (get_or sources k 0)) s ≡ true
      added s h = has-or found (get_or sources k 0) s ∙ rw (h, or-true)

      -- What was looked at, k among it.
      looks : {A : Type 0} (u : ℕ) → has (with_bit looked k) u ≡ true → (has looked u ≡ true → A) → (u ≡ k → A) → A
      looks u h f g = or_cases (has looked u) (eqb u k) (sym (has-with looked k u) ∙ h) f (λ e. g (eqb-true u k e))

      pub search_more : AllUnder n sources → Search (bit_or found (get_or sources k 0)) (with_bit looked k)
      search_more among =
          record {
            inside = or_lt n found (get_or sources k 0) x.inside (among k);
            few = with-under n looked k x.few new_there;
            chains =
                λ s h.
                or_cases (has found s) (flow s k) (sym (has-or found (get_or sources k 0) s) ∙ h) (x.chains s)
                (λ f. line_then flow n s k t new_there f (x.chains k new.0));
            into = λ s h. more s (x.into s h);
            within = λ u h. more u (looks u h (x.within u) (λ q. rw q new.0));
            done = λ u s h f. looks u h (λ i. more s (x.done u s i f)) (λ q. added s (rw q at f));
          }
