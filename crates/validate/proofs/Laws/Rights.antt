-- A right is one on a segment that is there and no save segment, so the test of all masks of the partitions at once is the
-- definition's test of each pair.
use Prim.Native.Nat.{ℕ, ◌+◌, ◌^◌, ◌<◌, ◌≤◌}
use mathlib.Core.Path.{◌≡◌, refl, sym, ◌∙◌, ap}
use mathlib.Core.Bool.{Bool, true, false, ◌&&◌, ◌||◌, not, or-true, true≢false}
use mathlib.Core.List.{List, []}
use native.Mathlib.Nat.{lt_of_le_of_lt}
use native.Mathlib.Omega.{arith}
use native.Mathlib.Decide.{dec_lt}
use borrow.Author.Tests.{eq-eqb, eqb-true, le-leb, leb-false, lt-leb, ltb-true}
use lib.Bits.{bit_and, bit_or, and_le_l}
use lib.Dec.{eqb, leb, ltb}
use lib.ListN.{drop, length, get_or}
use lib.Pow.{pow_pos}
use Rattle.bits.specs.Masks.{AllUnder, has, mask_of}
use Rattle.bits.proofs.Laws.Masks.{has-and, has_mask, has_none, has-or, masks_same, within_at, within_of}
use Rattle.bits.proofs.Laws.Sets.{has_below}
use Rattle.text.specs.declared.line.Line.{Line}
use Rattle.text.specs.declared.line.Line.TheVariants.{Right}
use Rattle.policy.specs.Below.{each_below, some_below}
use Rattle.policy.specs.Clash.{clashes}
use Rattle.policy.specs.Limits.{single}
use Rattle.policy.specs.Modes.{mode_in}
use Rattle.policy.specs.Range.{out_of_range}
use Rattle.policy.specs.Sound.{all_zero, good_right, passes}
use Rattle.policy.specs.View.{View}
use Rattle.policy.proofs.Laws.Below.{pairs_at, pairs_of, some_at, some_found, some_next}
use Rattle.policy.proofs.Laws.Bools.{and_left, and_right, not_so, or_left, or_right, same_truth}
use Rattle.policy.proofs.Laws.Tests.{parts, passes_both, passes_clear, passes_ranged}
use Rattle.wholerules.specs.Parts.{parts_of}
use Rattle.validate.proofs.Laws.Zeros.{zero_at, zero_of}

-- A pair that stands is one that a line could give.
said : (stands passed : Bool) → not stands || passed ≡ true → stands ≡ true → passed ≡ true
said true passed h e = h
said false passed h e = absurd (true≢false (sym e))

unsaid : (stands passed : Bool) → (stands ≡ true → passed ≡ true) → not stands || passed ≡ true
unsaid true passed f = f refl
unsaid false passed f = refl

-- Segment s is there.
there_at : (n s : ℕ) → has (mask_of n (λ s. true)) s ≡ true → s < n
there_at n s h = ltb-true s n (and_left (ltb s n) true (sym (has_mask (λ s. true) n s) ∙ h))

there_of : (n s : ℕ) → s < n → has (mask_of n (λ s. true)) s ≡ true
there_of n s l = has_below (λ s. true) n s l

-- A mask without bits is 0.
none_zero : (m : ℕ) → m < 2 ^ 32 → ((s : ℕ) → s < 32 → has m s ≡ true → ⊥) → m ≡ 0
none_zero m l h = masks_same 32 m 0 l (pow_pos 32) (λ s k. not_so (has m s) (h s k) ∙ sym (has_none s))

module _ (segments partitions : ℕ) (save reads writes : List ℕ) where
  abbrev view : View
  view = parts_of segments partitions 0 [] save reads writes []

  abbrev given : ℕ → ℕ → Bool
  given s p = view.reads p s || view.writes p s

  abbrev save_of : ℕ → ℕ → Bool
  save_of s p = eqb s (get_or save p 0)

  -- Before the loop's turn at p: the save segments of the partitions before it, and the segments on which they have rights.
  pub record Gathered (p saves held : ℕ) : Type 0 where
    pub saved : (s : ℕ) → s < 32 → has saves s ≡ some_below p (save_of s)
    pub rights : (s : ℕ) → s < 32 → has held s ≡ some_below p (given s)

  pub gathered_none : Gathered 0 0 0
  unfolding some_below
  gathered_none = record { saved = λ s l. has_none s; rights = λ s l. has_none s }

  module _ (few : segments ≤ 32) where
    pub gathered_more : (p saves held own : ℕ) → Gathered p saves held →
        own ≡ mask_of 64 (λ u. eqb u (get_or save p 0)) →
        Gathered (p + 1) (bit_or saves own) (bit_or held (bit_or (get_or reads p 0) (get_or writes p 0)))
    gathered_more p saves held own g o =
        record {
          saved = λ s k. has-or saves own s ∙ some_next (save_of s) p (has saves s) (has own s) (g.saved s k) (own_at s k);
          rights =
              λ s k.
              has-or held (bit_or (get_or reads p 0) (get_or writes p 0)) s
              ∙ rw (has-or (get_or reads p 0) (get_or writes p 0) s)
              (some_next (given s) p (has held s) (given s p) (g.rights s k) refl);
        }
      where
        own_at : (s : ℕ) → s < 32 → has own s ≡ save_of s p
        own_at s k = rw o (has_below (λ u. eqb u (get_or save p 0)) 64 s (omega arith))

    abbrev line : ℕ → ℕ → Line
    line p s = Right p s (mode_in view p s)

    abbrev there : ℕ
    there = mask_of segments (λ s. true)

    abbrev pairs : ℕ → Bool
    pairs n = each_below n (λ p. each_below 32 (good_right single view p))

    abbrev tests : ℕ → ℕ → Bool
    tests saves held = eqb (bit_and held there) held && eqb (bit_and held saves) 0

    module _ (saves held : ℕ) (under : held < 2 ^ 32) (g : Gathered partitions saves held) where
      tests_to : tests saves held ≡ true → pairs partitions ≡ true
      unfolding good_right out_of_range clashes
      tests_to h =
          pairs_of (good_right single view) partitions 32
          (λ p s lp ls.
          unsaid (given s p) (passes single view (line p s))
          (λ e.
          let in_held = g.rights s ls ∙ some_found (given s) partitions p lp e in
          passes_both single view (line p s) (rw (lt-leb partitions p lp, lt-leb segments s (stands s in_held))) (sym (g.saved s ls) ∙ free s in_held)))
        where
          stands : (s : ℕ) → has held s ≡ true → s < segments
          stands s e = there_at segments s (within_at held there (eqb-true (bit_and held there) held (search parts)) s e)

          free : (s : ℕ) → has held s ≡ true → has saves s ≡ false
          free s e =
              let none : bit_and held saves ≡ 0 = eqb-true (bit_and held saves) 0 (search parts) in
              sym (ap (λ (x : Bool). x && has saves s) e) ∙ sym (has-and held saves s) ∙ ap (λ (k : ℕ). has k s) none ∙ has_none s

      tests_from : pairs partitions ≡ true → tests saves held ≡ true
      unfolding good_right out_of_range clashes
      tests_from h =
          rw (
            eq-eqb (bit_and held there) held (within_of 32 held there under stands),
            eq-eqb (bit_and held saves) 0 (none_zero (bit_and held saves) (lt_of_le_of_lt (and_le_l held saves) under) free),
          )
        where
          passed : (s : ℕ) → s < 32 → has held s ≡ true → (P : Type 0) → ((p : ℕ) → p < partitions → passes single view (line p s) ≡ true → P) → P
          passed s l e P f =
              let k = some_at (given s) partitions (sym (g.rights s l) ∙ e) in
              f k.number k.below
              (said (given s k.number) (passes single view (line k.number s))
              (pairs_at (good_right single view) partitions 32 h k.number s k.below l)
              k.passes)

          stands : (s : ℕ) → s < 32 → has held s ≡ true → has there s ≡ true
          stands s l e =
              passed s l e (has there s ≡ true)
              (λ p m t.
              there_of segments s
              (leb-false segments s (or_right (leb partitions p) (leb segments s) (passes_ranged single view (line p s) t))))

          free : (s : ℕ) → s < 32 → has (bit_and held saves) s ≡ true → ⊥
          free s l e =
              let both = sym (has-and held saves s) ∙ e in
              passed s l (and_left (has held s) (has saves s) both) ⊥
              (λ p m t.
              true≢false
              (sym (and_right (has held s) (has saves s) both) ∙ g.saved s l ∙ passes_clear single view (line p s) t))

      tests_told : tests saves held ≡ pairs partitions
      tests_told = same_truth (tests saves held) (pairs partitions) tests_to tests_from

    pub gathered_told : (p saves held : ℕ) → held < 2 ^ 32 → Gathered p saves held → p ≡ partitions → tests saves held ≡ pairs partitions
    gathered_told p saves held under g q = tests_told saves held under (rw q at g)

    -- A partition that is not there has no rights where its masks are 0.
    module _
        (room : partitions ≤ 8)
        (reads_under : AllUnder 32 reads)
        (writes_under : AllUnder 32 writes)
        (reads_long : length reads ≡ 8)
        (writes_long : length writes ≡ 8)
      where
        abbrev within_count : Bool
        within_count = all_zero (drop partitions reads) && all_zero (drop partitions writes) && pairs partitions

        count_to : within_count ≡ true → pairs 8 ≡ true
        unfolding good_right
        count_to h = pairs_of (good_right single view) 8 32 (λ p s lp ls. at p s ls (dec_lt p partitions))
          where
            at : (p s : ℕ) → s < 32 → Dec (p < partitions) → good_right single view p s ≡ true
            at p s ls (yes m) = pairs_at (good_right single view) partitions 32 (search parts) p s m ls
            at p s ls (no m) =
                rw (
                  zero_at reads partitions (search parts) p (omega arith),
                  zero_at writes partitions (search parts) p (omega arith),
                  has_none s,
                )

        count_from : pairs 8 ≡ true → within_count ≡ true
        unfolding good_right out_of_range
        count_from h =
            rw (
              zero_of reads partitions (λ p le l. none_zero (get_or reads p 0) (reads_under p) (λ s k e. stray p s le (omega arith) k (rw e))),
              zero_of writes partitions (λ p le l. none_zero (get_or writes p 0) (writes_under p) (λ s k e. stray p s le (omega arith) k (rw (e, or-true)))),
              pairs_of (good_right single view) partitions 32 (λ p s lp ls. pairs_at (good_right single view) 8 32 h p s (omega arith) ls),
            )
          where
            stray : (p s : ℕ) → partitions ≤ p → p < 8 → s < 32 → given s p ≡ true → ⊥
            stray p s le lp ls e =
                let t = said (given s p) (passes single view (line p s)) (pairs_at (good_right single view) 8 32 h p s lp ls) e in
                true≢false
                (sym (le-leb partitions p le)
                ∙ or_left (leb partitions p) (leb segments s) (passes_ranged single view (line p s) t))

        pub count_told : within_count ≡ pairs 8
        count_told = same_truth within_count (pairs 8) count_to count_from
