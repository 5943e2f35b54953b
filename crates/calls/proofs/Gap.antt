-- Gaps with the same lines for a save segment leave equal bytes in it: Pends may be exchanged and repeated, so to do both gaps is to do either.
use Prim.Native.Nat.{ℕ, ◌<◌}
use native.Mathlib.Decide.{ℕ_discrete}
use mathlib.Core.Path.{◌≡◌, refl, sym, ◌∙◌, ap}
use mathlib.Core.Logic.{◌↔◌}
use mathlib.Core.List.{List, [], ◌∷◌, Memᴰ}
use lib.ListN.{length}
use Rattle.policy.specs.Limits.{Limits}
use Rattle.policy.specs.View.{View}
use Rattle.policy.specs.Lawful.{Lawful}
use Rattle.machine.specs.Bytes.{part}
use Rattle.calls.specs.Pend.{with_line}
use Rattle.calls.proofs.Laws.Pends.{line_again, line_swap, line_length, line_other, line_same}
use Rattle.calls.proofs.Plan.{Pend, pend_all}

module _ (v : View) where
  pub pends_length : (g : List Pend) (m : List ℕ) → length (pend_all v g m) ≡ length m
  unfolding pend_all
  pends_length [] m = refl
  pends_length (x ∷ g) m = pends_length g (with_line v x.0 x.1 m) ∙ line_length v x.0 x.1 m

  -- A Pend first or last.
  pends_one : (x : Pend) (g : List Pend) (m : List ℕ) → pend_all v g (with_line v x.0 x.1 m) ≡ with_line v x.0 x.1 (pend_all v g m)
  unfolding pend_all
  pends_one x [] m = refl
  pends_one x (y ∷ g) m = ap (pend_all v g) (line_swap v y.0 y.1 x.0 x.1 m) ∙ pends_one x g (with_line v y.0 y.1 m)

  pends_swap : (g h : List Pend) (m : List ℕ) → pend_all v g (pend_all v h m) ≡ pend_all v h (pend_all v g m)
  unfolding pend_all
  pends_swap g [] m = refl
  pends_swap g (x ∷ h) m = pends_swap g h (with_line v x.0 x.1 m) ∙ ap (pend_all v h) (pends_one x g m)

  -- A Pend that stands in the gap adds nothing to it.
  pends_again : (x : Pend) {g : List Pend} (m : List ℕ) → Memᴰ x g → pend_all v g (with_line v x.0 x.1 m) ≡ pend_all v g m
  unfolding pend_all
  pends_again x m (Memᴰ.head {xs = g} e) = rw e (ap (pend_all v g) (line_again v _ _ m))
  pends_again x m (Memᴰ.tail {x = y} {xs = g} h) =
      ap (pend_all v g) (line_swap v y.0 y.1 x.0 x.1 m) ∙ pends_again x (with_line v y.0 y.1 m) h

  -- Each Pend of a gap is for a partition of the policy.
  abbrev pub Named : List Pend → Type 0
  Named g = (x : Pend) → Memᴰ x g → x.0 < v.partitions

  -- The gaps have the same Pends for the partition whose save segment this is.
  abbrev pub SameFor : ℕ → List Pend → List Pend → Type 0
  SameFor s g h = (x : Pend) → v.save x.0 ≡ s → Memᴰ x g ↔ Memᴰ x h

module _ (limits : Limits) (v : View) (W : Lawful limits v) (s : ℕ) (hs : s < v.segments) where
  abbrev bytes : List ℕ → List ℕ
  bytes m = part m (v.base s) (v.size s)

  -- A gap does to a segment what the segment's own bytes say.
  pends_same : (g : List Pend) (m m' : List ℕ) → Named v g → bytes m ≡ bytes m' → bytes (pend_all v g m) ≡ bytes (pend_all v g m')
  unfolding pend_all
  pends_same [] m m' n e = e
  pends_same (x ∷ g) m m' n e =
      pends_same g (with_line v x.0 x.1 m) (with_line v x.0 x.1 m') (λ y i. n y (Memᴰ.tail i))
      (line_same limits v W x.0 x.1 (n x (Memᴰ.head refl)) s m m' hs e)

  -- A second gap adds nothing to a segment, if the first has each of its Pends for it.
  pends_within : (g h : List Pend) (m : List ℕ) → Named v h → ((x : Pend) → v.save x.0 ≡ s → Memᴰ x h → Memᴰ x g)
      → bytes (pend_all v g (pend_all v h m)) ≡ bytes (pend_all v g m)
  unfolding pend_all
  pends_within g [] m n i = refl
  pends_within g (x ∷ h) m n i =
      pends_within g h (with_line v x.0 x.1 m) (λ y j. n y (Memᴰ.tail j)) (λ y e j. i y e (Memᴰ.tail j))
      ∙ go (ℕ_discrete (v.save x.0) s)
    where
      go : Dec (v.save x.0 ≡ s) → bytes (pend_all v g (with_line v x.0 x.1 m)) ≡ bytes (pend_all v g m)
      go (yes e) = ap bytes (pends_again v x m (i x e (Memᴰ.head refl)))
      go (no d) =
          ap bytes (pends_one v x g m)
          ∙ line_other limits v W x.0 x.1 (n x (Memᴰ.head refl)) s (pend_all v g m) hs d

  pub gap_same : (g h : List Pend) (m m' : List ℕ) → Named v g → Named v h → SameFor v s g h → bytes m ≡ bytes m' → bytes (pend_all v g m) ≡ bytes (pend_all v h m')
  gap_same g h m m' ng nh same e =
      sym (pends_within g h m nh (λ x q i. (same x q).1 i))
      ∙ ap bytes (pends_swap v g h m)
      ∙ pends_within h g m ng (λ x q i. (same x q).0 i)
      ∙ pends_same h m m' nh e
