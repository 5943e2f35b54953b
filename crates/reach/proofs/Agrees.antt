-- The question's answer is that of the report's row: of a sound record by the bit of a mask, of any other no and an empty report.
use Prim.Native.Nat.{ℕ, ◌<◌, ◌≤◌}
use mathlib.Core.Path.{◌≡◌, refl, sym, ap, ◌∙◌}
use mathlib.Core.Bool.{Bool, true, false, cond, ◌||◌, true≢false}
use mathlib.Core.List.{Memᴰ}
use native.Mathlib.Omega.{arith}
use native.Mathlib.Decide.{dec_lt}
use borrow.Author.Tests.{lt-ltb, le-ltb, le-leb, leb-true, leb-false}
use lib.Dec.{ltb}
use lib.ListN.{get_or, replicate, get_or-eq_default}
use Rattle.std.specs.Prelude.{Ok}
use Rattle.bits.specs.Masks.{has, mask_of}
use Rattle.bits.proofs.Laws.Masks.{has_none, has_mask}
use Rattle.bits.proofs.Laws.Sets.{has_below}
use Rattle.policy.specs.Limits.{Limits}
use Rattle.policy.specs.Range.{no_segment}
use Rattle.policy.specs.Sound.{sound_of}
use Rattle.policy.specs.Tables.{Tables, view_of}
use Rattle.policy.specs.View.{View}
use Rattle.policy.proofs.Lawful.{lawful}
use Rattle.policy.proofs.Laws.Bools.{or_both, or_cases}
use Rattle.policy.proofs.Laws.Zeros.{zero_at}
use Rattle.policy.proofs.Laws.Lists.{list_long, list_at, list_same}
use Rattle.calls.specs.Under.{Under, under}
use Rattle.reach.specs.Via.{reaches}
use Rattle.reach.specs.Rows.{those_below, row_of, row_mask, report_masks}
use Rattle.reach.specs.Answers.{reach_answer, can_reach_answer}
use Rattle.reach.specs.Exact.{MaskExact, MasksReport, Agrees}
use Rattle.reach.proofs.Laws.Rows.{those_pass, those_hold, those_same}

none_set : (n t s : ℕ) → has (get_or (replicate n 0) t 0) s ≡ false
none_set n t s = ap (λ (m : ℕ). has m s) (zero_at n t) ∙ has_none s

module _ (limits : Limits) (v : View) (few : v.segments ≤ limits.segments) where
  masks_at : (t : ℕ) → get_or (report_masks limits v) t 0 ≡ row_mask v t
  masks_at t = go (dec_lt t limits.segments)
    where
      go : Dec (t < limits.segments) → get_or (report_masks limits v) t 0 ≡ row_mask v t
      go (yes l) = list_at (row_mask v) limits.segments t 0 l
      go (no l) =
          get_or-eq_default (report_masks limits v) 0 {n = t} (rw (list_long (row_mask v) limits.segments) (omega arith))
          ∙ rw (le-ltb t v.segments (omega arith))

  -- Of segments the bit is the chain's, of other numbers it is 0.
  bit_inside : (s t : ℕ) → s < v.segments → t < v.segments → has (get_or (report_masks limits v) t 0) s ≡ reaches v s t
  bit_inside s t a b =
      ap (λ (m : ℕ). has m s) (masks_at t) ∙ rw (lt-ltb t v.segments b) (has_below (λ s. reaches v s t) v.segments s a)

  bit_outside : (s t : ℕ) → no_segment v s || no_segment v t ≡ true → has (get_or (report_masks limits v) t 0) s ≡ false
  bit_outside s t e =
      ap (λ (m : ℕ). has m s) (masks_at t) ∙ or_cases (no_segment v s) (no_segment v t) e from to
    where
      within : (b : Bool) → v.segments ≤ s → has (cond b (mask_of v.segments (λ s. reaches v s t)) 0) s ≡ false
      within true l = has_mask (λ s. reaches v s t) v.segments s ∙ rw (le-ltb s v.segments l)
      within false l = has_none s

      from : no_segment v s ≡ true → has (row_mask v t) s ≡ false
      from q = within (ltb t v.segments) (leb-true v.segments s q)

      to : no_segment v t ≡ true → has (row_mask v t) s ≡ false
      to q = rw (le-ltb t v.segments (leb-true v.segments t q)) (has_none s)

-- Of a record's view, sound or not.
module _ (limits : Limits) (v : View) (s t : ℕ) where
  abbrev with : Bool → Under
  with sound = record { limits = limits; view = v; sound = sound }

  agree_unsound : Agrees (with false) s t
  unfolding reach_answer can_reach_answer
  agree_unsound =
      record {
        yes = sym (none_set limits.segments t s);
        unsound = (λ e. refl, λ e. refl);
        no_segment = (λ e. absurd (cc), λ p. absurd (true≢false (sym p.0)));
      }

  agree_sound : v.segments ≤ limits.segments → Agrees (with true) s t
  unfolding reach_answer can_reach_answer
  agree_sound few = go (no_segment v s || no_segment v t) refl
    where
      go : (d : Bool) → no_segment v s || no_segment v t ≡ d → Agrees (with true) s t
      go true e =
          record {
            yes = rw e (sym (bit_outside limits v few s t e));
            unsound = rw e (λ q. absurd (cc), λ q. absurd (cc));
            no_segment = rw e (λ q. (refl, out), λ p. refl);
          }
        where
          out : (s < v.segments) × (t < v.segments) → ⊥
          out p =
              or_cases (no_segment v s) (no_segment v t) e
              (λ q. omega (arith, leb-true v.segments s q)) (λ q. omega (arith, leb-true v.segments t q))
      go false e =
          let both = or_both (no_segment v s) (no_segment v t) e in
          let a : s < v.segments = leb-false v.segments s both.0 in
          let b : t < v.segments = leb-false v.segments t both.1 in
          record {
            yes = rw e (sym (bit_inside limits v few s t a b));
            unsound = rw e (λ q. absurd (cc), λ q. absurd (cc));
            no_segment = rw e (λ q. absurd (cc), λ p. absurd (p.1 (a, b)));
          }

module _ (limits : Limits) (tables : Tables) where
  pub agrees : (s t : ℕ) → Agrees (under limits tables) s t
  agrees s t = go (sound_of limits tables) refl
    where
      go : (b : Bool) → sound_of limits tables ≡ b → Agrees (under limits tables) s t
      go true e = rw e (agree_sound limits (view_of tables) s t (lawful limits tables e).few_segments)
      go false e = rw e (agree_unsound limits (view_of tables) s t)

  module _ (h : sound_of limits tables ≡ true) (t : ℕ) (b : t < (view_of tables).segments) where
    abbrev v : View
    v = view_of tables

    abbrev test : ℕ → Bool
    test s = reaches v s t

    bit_few : v.segments ≤ limits.segments
    bit_few = (lawful limits tables h).few_segments

    bit : (s : ℕ) → s < v.segments → has (get_or (report_masks limits v) t 0) s ≡ test s
    bit s a = bit_inside limits v bit_few s t a b

    bit_row_lem : (s : ℕ) → Dec (s < v.segments) → has (get_or (report_masks limits v) t 0) s ≡ true → Memᴰ s (row_of v t)
    bit_row_lem s (yes a) e = those_hold test v.segments s a (sym (bit s a) ∙ e)
    bit_row_lem s (no a) e =
        absurd (true≢false (sym e ∙ bit_outside limits v bit_few s t (rw (le-leb v.segments s (omega arith)))))

    pub mask_exact : MaskExact (under limits tables) t
    unfolding reach_answer
    mask_exact s =
        rw h
        (bit_row_lem s (dec_lt s v.segments), λ m. let p = those_pass test v.segments s m in bit s p.0 ∙ p.1)

  pub reach_ok : sound_of limits tables ≡ true → reach_answer (under limits tables) ≡ Ok (report_masks limits (view_of tables))
  unfolding reach_answer
  reach_ok h = rw h

  pub masks_report : sound_of limits tables ≡ true → MasksReport (under limits tables)
  unfolding reach_answer
  masks_report h =
      let v = view_of tables in
      let few = (lawful limits tables h).few_segments in
      rw h
      (list_same (λ t. those_below v.segments (has (get_or (report_masks limits v) t 0))) (row_of v) v.segments
      (λ t b. those_same (has (get_or (report_masks limits v) t 0)) (λ s. reaches v s t) v.segments (λ s a. bit_inside limits v few s t a b)))
