-- The sources in a sound record are segments, so the rows spread over all segments are the report; the tests of both answers.
use Prim.Native.Nat.{ℕ, ◌<◌, ◌≤◌}
use mathlib.Core.Path.{◌≡◌, sym, ap, ◌∙◌}
use mathlib.Core.Bool.{true, false}
use mathlib.Core.List.{List}
use native.Mathlib.Omega.{arith}
use native.Mathlib.Decide.{dec_lt}
use borrow.Author.Tests.{lt-ltb, le-ltb}
use lib.ListN.{length, get_or, get_or-eq_default}
use lib.Pow.{pow_pos}
use lib.Seq.{ext_get_or}
use Rattle.bits.specs.Masks.{AllUnder, has}
use Rattle.bits.proofs.Laws.Masks.{has_none, has_past, masks_same}
use Rattle.bits.proofs.Laws.Sets.{mask_cut}
use Rattle.policy.specs.Limits.{Limits}
use Rattle.policy.specs.Sound.{lines_hold, sound_of}
use Rattle.policy.specs.Tables.{Tables, view_of}
use Rattle.policy.proofs.Entries.{good, lengths, fit}
use Rattle.policy.proofs.Lawful.{lawful}
use Rattle.policy.proofs.Laws.Bools.{not_so}
use Rattle.policy.proofs.Laws.Tests.{parts, flow_there}
use Rattle.policy.proofs.Laws.Lists.{list_long, list_at}
use Rattle.reach.specs.Rows.{row_mask, report_masks}
use Rattle.reach.specs.Spread.{spread_up}
use Rattle.reach.proofs.Laws.Spread.{up_long, up_none, up_via}

module _ (limits : Limits) (t : Tables) (h : sound_of limits t ≡ true) where
  abbrev n : ℕ
  n = t.segments.count

  abbrev sources : List ℕ
  sources = t.flows.sources

  pub few : n ≤ limits.segments
  few = (lawful limits t h).few_segments

  pub wide : n ≤ length sources
  wide = rw (lengths limits t h).sources few

  -- A line stands between two segments.
  line-there : (s u : ℕ) → s < limits.segments → u < limits.segments → has (get_or sources u 0) s ≡ true → (s < n) × (u < n)
  unfolding sound_of
  line-there s u a b e =
      let holds : lines_hold limits (view_of t) ≡ true = search parts in
      flow_there limits (view_of t) s u ((good limits (view_of t) holds).flow s u a b) e

  -- No bit from the last segment on, nor past the last mask.
  stray : (s u : ℕ) → (s < n → u < n → ⊥) → has (get_or sources u 0) s ≡ false
  stray s u out = go (dec_lt s limits.segments) (dec_lt u limits.segments)
    where
      go : Dec (s < limits.segments) → Dec (u < limits.segments) → has (get_or sources u 0) s ≡ false
      go (yes a) (yes b) =
          not_so (has (get_or sources u 0) s) (λ e. let l = line-there s u a b e in out l.0 l.1)
      go (yes a) (no b) =
          ap (λ (m : ℕ). has m s) (get_or-eq_default sources 0 {n = u} (rw (lengths limits t h).sources (omega arith))) ∙ has_none s
      go (no a) b = has_past limits.segments (get_or sources u 0) s ((fit limits t h).sources u) (omega arith)

  pub among : AllUnder n sources
  among u = mask_cut limits.segments n (get_or sources u 0) few ((fit limits t h).sources u) (λ s l. stray s u (λ a b. omega arith))

  past : (u : ℕ) → n ≤ u → get_or sources u 0 ≡ 0
  past u l =
      masks_same n (get_or sources u 0) 0 (among u) (pow_pos n) (λ s k. stray s u (λ a b. omega arith) ∙ sym (has_none s))

  pub rows_are : spread_up sources n ≡ report_masks limits (view_of t)
  rows_are =
      ext_get_or 0 (spread_up sources n) (report_masks limits (view_of t))
      (up_long sources n ∙ (lengths limits t h).sources ∙ sym (list_long (row_mask (view_of t)) limits.segments))
      (λ i l. at i (omega (arith, up_long sources n, (lengths limits t h).sources)) (dec_lt i n))
    where
      at : (i : ℕ) → i < limits.segments → Dec (i < n) → get_or (spread_up sources n) i 0 ≡ get_or (report_masks limits (view_of t)) i 0
      at i l (yes k) =
          up_via sources n wide among n i (omega arith) k
          ∙ sym (list_at (row_mask (view_of t)) limits.segments i 0 l ∙ rw (lt-ltb i n k))
      at i l (no k) =
          up_none sources n i (omega (arith, (lengths limits t h).sources)) (past i (omega arith))
          ∙ sym (list_at (row_mask (view_of t)) limits.segments i 0 l ∙ rw (le-ltb i n (omega arith)))
