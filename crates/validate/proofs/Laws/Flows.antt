-- A flow line may give a bit where both segments are there and are two, so the test of each target's mask at once is the definition's test
-- of each pair.
use Prim.Native.Nat.{ℕ, ◌+◌, ◌-◌, ◌^◌, ◌<◌, ◌≤◌}
use mathlib.Core.Path.{◌≡◌, refl, sym, ◌∙◌, ap}
use mathlib.Core.Bool.{Bool, true, false, cond, ◌&&◌, ◌||◌, not, and-false, and-true, or-false, or-true, true≢false}
use mathlib.Core.List.{List, []}
use native.Mathlib.Decide.{dec_lt}
use native.Mathlib.Nat.{lt_of_le_of_lt, lt_of_lt_of_le}
use native.Mathlib.Numerals.{add-one}
use native.Mathlib.Omega.{arith}
use lib.Bits.{bit_and, bit_or, bit_xor, and_le_l, xor_add_and}
use lib.Dec.{eqb, leb, ltb}
use lib.ListN.{get_or}
use lib.Pow.{pow_mono, pow_pos}
use borrow.Author.Tests.{eq-eqb, eqb-true, le-leb, le-ltb, lt-leb, lt-ltb, ne_eqb, not-true}
use Rattle.bits.specs.Masks.{has, mask_of}
use Rattle.bits.proofs.Laws.Masks.{has-and, has_mask, has_none, has_one, has-or, has-xor, mask_under, masks_same, within_of}
use Rattle.bits.proofs.Laws.Sets.{all_is, has_below}
use Rattle.text.specs.declared.line.Line.TheVariants.{Flow}
use Rattle.policy.specs.Below.{each_below}
use Rattle.policy.specs.Clash.{clashes}
use Rattle.policy.specs.Limits.{single}
use Rattle.policy.specs.Range.{out_of_range}
use Rattle.policy.specs.Sound.{good_flow, passes}
use Rattle.policy.specs.View.{View}
use Rattle.policy.proofs.Laws.Below.{each_at, each_of, each_same, pairs_at, pairs_of}
use Rattle.policy.proofs.Laws.Bools.{same_truth}
use Rattle.wholerules.specs.Parts.{parts_of}
use Rattle.validate.proofs.Laws.Zeros.{or_none}

-- One `and` tells whether two masks have no bit together.
apart_told : (n a b : ℕ) → a < 2 ^ n → eqb (bit_and a b) 0 ≡ each_below n (λ s. not (has a s && has b s))
apart_told n a b l =
    same_truth (eqb (bit_and a b) 0) (each_below n apart)
    (λ h.
    each_of apart n
    (λ s k. ap not (sym (has-and a b s) ∙ ap (λ (m : ℕ). has m s) (eqb-true (bit_and a b) 0 h) ∙ has_none s)))
    (λ h.
    eq-eqb (bit_and a b) 0
    (masks_same n (bit_and a b) 0 (lt_of_le_of_lt (and_le_l a b) l) (pow_pos n)
    (λ s k. has-and a b s ∙ not-true _ (each_at apart n h s k) ∙ sym (has_none s))))
  where
    apart : ℕ → Bool
    apart s = not (has a s && has b s)

pub there_under : (segments : ℕ) → segments ≤ 32 → mask_of segments (λ s. true) < 2 ^ 32
there_under segments few = lt_of_lt_of_le (mask_under (λ s. true) segments) (pow_mono few)

-- All sources.
full : 4294967295 ≡ mask_of 32 (λ s. true)
full = omega (arith, all_is 32)

full_at : (s : ℕ) → s < 32 → has 4294967295 s ≡ true
full_at s l = ap (λ (m : ℕ). has m s) full ∙ has_below (λ s. true) 32 s l

-- The sources that are not there.
pub beyond_is : (segments there : ℕ) → there ≡ mask_of segments (λ s. true) → segments ≤ 32 → 4294967295 - there ≡ bit_xor there 4294967295
beyond_is segments there e few =
    let l : there < 2 ^ 32 = rw e (there_under segments few) in
    let w = within_of 32 there 4294967295 l (λ s k h. full_at s k) in
    omega (arith, w, xor_add_and there 4294967295)

either : (x y : Bool) → x || y ≡ not (not x && not y)
either true y = refl
either false true = refl
either false false = refl

barred_good : (given passed : Bool) → not (given && not passed) ≡ not given || passed
barred_good true true = refl
barred_good true false = refl
barred_good false passed = refl

module _ (segments : ℕ) (sources : List ℕ) where
  abbrev flows : View
  flows = parts_of segments 0 0 [] [] [] [] sources

  -- The test of target t.
  module _
      (t there beyond bit : ℕ)
      (few : segments ≤ 32)
      (under : get_or sources t 0 < 2 ^ 32)
      (th : there ≡ mask_of segments (λ s. true))
      (o : beyond ≡ bit_xor there 4294967295)
      (b : bit ≡ 2 ^ t)
    where
      abbrev barred : ℕ
      barred = cond (eqb (bit_and there bit) 0) 4294967295 (bit_or beyond bit)

      there_at : (s : ℕ) → has there s ≡ ltb s segments
      there_at s = rw th (has_mask (λ s. true) segments s ∙ and-true (ltb s segments))

      bit_at : (s : ℕ) → has bit s ≡ eqb s t
      bit_at s = rw b (has_one t s)

      bit_there : eqb (bit_and there bit) 0 ≡ not (ltb t segments)
      bit_there = go (dec_lt t segments)
        where
          none : segments ≤ t → (s : ℕ) → Dec (s < segments) → not (has there s && has bit s) ≡ true
          none n s (yes l) = rw (bit_at s, ne_eqb s t (λ q. omega arith), and-false)
          none n s (no l) = rw (there_at s, le-ltb s segments (omega arith))

          go : Dec (t < segments) → eqb (bit_and there bit) 0 ≡ not (ltb t segments)
          go (yes l) =
              let both : has (bit_and there bit) t ≡ true =
              has-and there bit t ∙ rw (there_at t, lt-ltb t segments l, bit_at t, eq-eqb t t refl) in
              rw (lt-ltb t segments l)
              (ne_eqb (bit_and there bit) 0 (λ e. true≢false (sym both ∙ ap (λ (m : ℕ). has m t) e ∙ has_none t)))
          go (no n) =
              rw (le-ltb t segments (omega arith))
              (apart_told 32 there bit (rw th (there_under segments few))
              ∙ each_of (λ s. not (has there s && has bit s)) 32 (λ s k. none (omega arith) s (dec_lt s segments)))

      beyond_at : (s : ℕ) → s < 32 → has beyond s ≡ leb segments s
      beyond_at s l = rw (o, has-xor there 4294967295 s, there_at s, full_at s l) (go (dec_lt s segments))
        where
          go : Dec (s < segments) → cond (ltb s segments) false true ≡ leb segments s
          go (yes k) = rw (lt-ltb s segments k, lt-leb segments s k)
          go (no k) = rw (le-ltb s segments (omega arith), le-leb segments s (omega arith))

      barred_at : (s : ℕ) → s < 32 → has barred s ≡ not (passes single flows (Flow s t))
      unfolding out_of_range clashes
      barred_at s l = rw bit_there (go (dec_lt t segments))
        where
          go : Dec (t < segments) →
              has (cond (not (ltb t segments)) 4294967295 (bit_or beyond bit)) s
              ≡ not (not (leb segments s || leb segments t) && not (eqb s t))
          go (yes k) =
              rw (lt-ltb t segments k, lt-leb segments t k, or-false, has-or beyond bit s, beyond_at s l, bit_at s)
              (either (leb segments s) (eqb s t))
          go (no k) = rw (le-ltb t segments (omega arith), le-leb segments t (omega arith), or-true) (full_at s l)

      row_told : eqb (bit_and (get_or sources t 0) barred) 0 ≡ each_below 32 (λ s. good_flow single flows s t)
      unfolding good_flow
      row_told =
          apart_told 32 (get_or sources t 0) barred under
          ∙ each_same (λ s. not (has (get_or sources t 0) s && has barred s)) (λ s. good_flow single flows s t) 32
          (λ s l. rw (barred_at s l) (barred_good (flows.flow s t) (passes single flows (Flow s t))))

      pub row_more : (stray : ℕ) → eqb stray 0 ≡ each_below t (λ t. each_below 32 (λ s. good_flow single flows s t)) →
          eqb (bit_or stray (bit_and (get_or sources t 0) barred)) 0
          ≡ each_below (t + 1) (λ t. each_below 32 (λ s. good_flow single flows s t))
      unfolding each_below
      row_more stray e = rw (add-one, or_none, e, row_told)

  pub rows_told :
      each_below 32 (λ t. each_below 32 (λ s. good_flow single flows s t)) ≡ each_below 32 (λ s. each_below 32 (good_flow single flows s))
  rows_told =
      same_truth _ _
      (λ h.
      pairs_of (good_flow single flows) 32 32
      (λ s t l k. pairs_at (λ t s. good_flow single flows s t) 32 32 h t s k l))
      (λ h.
      pairs_of (λ t s. good_flow single flows s t) 32 32
      (λ t s l k. pairs_at (good_flow single flows) 32 32 h s t k l))
