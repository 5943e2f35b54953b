-- Rule 8 of a save segment, asked with its partition: one `and` decides whether it lacks a line from what the partition reaches. Where no write
-- mask gives a segment, no other partition asks for a line into it.
use Prim.Native.Nat.{ℕ, ◌^◌, ◌<◌, ◌≤◌}
use mathlib.Core.Path.{◌≡◌, refl, sym, ◌∙◌}
use mathlib.Core.Bool.{Bool, true, false, ◌&&◌, ◌||◌, cond, not, and-true, and-false}
use mathlib.Core.List.{List, []}
use native.Mathlib.Decide.{ℕ_discrete}
use native.Mathlib.Omega.{arith}
use lib.Bits.{bit_and, bit_or}
use lib.Dec.{eqb}
use lib.ListN.{get_or}
use borrow.Author.Tests.{eq-eqb, ne_eqb}
use Rattle.bits.specs.Masks.{has, mask_of}
use Rattle.bits.proofs.Laws.Masks.{has-and, has-or, mask_under}
use Rattle.bits.proofs.Laws.Sets.{has_below}
use Rattle.policy.specs.Below.{some_below}
use Rattle.policy.specs.ByTarget.{partition_lacks}
use Rattle.policy.specs.View.{View}
use Rattle.policy.specs.Whole.{flow_lacks}
use Rattle.policy.proofs.Laws.Below.{none_at, none_of, some_same}
use Rattle.wholerules.specs.Masks.{AreReached, asked_into, joined, reach}
use Rattle.wholerules.specs.Parts.{parts_of}
use Rattle.wholerules.proofs.Laws.Asked.{has-cond, has_joined}
use Rattle.wholerules.proofs.Laws.Sources.{lacks, target_told}
use Rattle.wholerules.proofs.Laws.Strays.{mask_strays}

module _ (segments partitions : ℕ) (save reads writes sources : List ℕ) (t : ℕ) (present : t < segments) where
  abbrev view : View
  view = parts_of segments partitions 0 [] save reads writes sources

  -- The test of partition p with its save segment k.
  module _
      (p k there reached from own : ℕ)
      (few : segments ≤ 64)
      (e : k ≡ get_or save p 0)
      (th : there ≡ mask_of segments (λ s. true))
      (o : own ≡ mask_of 64 (λ u. eqb u k))
      (r : reached ≡ mask_of segments (reach save reads p))
      (f : from ≡ get_or sources k 0)
    where
      abbrev allowed : ℕ
      allowed = bit_or (bit_and from there) own

      own_at : (s : ℕ) → s < segments → has own s ≡ eqb s k
      own_at s l = rw o (has_below (λ u. eqb u k) 64 s (omega arith))

      at : t ≡ k → (s : ℕ) → s < segments → has reached s && not (has allowed s) ≡ flow_lacks view p t s
      at q s l =
          rw (
            has-or (bit_and from there) own s,
            has-and from there s,
            own_at s l,
            th,
            has_below (λ s. true) segments s l,
            and-true,
            r,
            has_below (reach save reads p) segments s l,
            f,
            q,
            ← e,
            eq-eqb k k refl,
          )
          (lacks (eqb s k || has (get_or reads p 0) s) (eqb s k) (has (get_or sources k 0) s))

      pub own_told : has (cond (not (eqb (bit_and reached allowed) reached)) own 0) t ≡ eqb t k && partition_lacks view t p
      own_told = has-cond (not (eqb (bit_and reached allowed) reached)) own t ∙ rw (own_at t present) (go (ℕ_discrete t k))
        where
          go : Dec (t ≡ k) → not (eqb (bit_and reached allowed) reached) && eqb t k ≡ eqb t k && partition_lacks view t p
          go (yes q) =
              rw (eq-eqb t k q, and-true)
              (mask_strays segments reached allowed (rw r (mask_under (reach save reads p) segments))
              ∙ some_same (λ s. has reached s && not (has allowed s)) (λ s. flow_lacks view p t s) segments (at q))
          go (no n) = rw (ne_eqb t k n, and-false)

  pub lackers_told : (reached written : List ℕ) → AreReached save reads segments partitions reached →
      AreReached save writes segments partitions written → has (joined writes partitions) t ≡ false →
      (let asked = asked_into reached written t partitions in
      some_below partitions (λ p. eqb t (get_or save p 0) && partition_lacks view t p)
      ≡ not (eqb (bit_and asked (bit_or (get_or sources t 0) (2 ^ t))) asked))
  lackers_told reached written r w none =
      some_same (λ p. eqb t (get_or save p 0) && partition_lacks view t p) (partition_lacks view t) partitions
      (λ p l.
      go p (none_at (λ p. has (get_or writes p 0) t) partitions (sym (has_joined writes partitions t) ∙ none) p l)
      (eqb t (get_or save p 0)) refl)
      ∙ sym (target_told segments partitions save reads writes sources reached written r w t present)
    where
      go : (p : ℕ) → has (get_or writes p 0) t ≡ false → (b : Bool) → eqb t (get_or save p 0) ≡ b →
          b && partition_lacks view t p ≡ partition_lacks view t p
      go p unwritten true e = refl
      go p unwritten false e = sym (none_of (λ s. flow_lacks view p t s) segments (λ s l. rw (e, unwritten)))
