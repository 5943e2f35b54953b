-- A byte record stands for one mask record and is stood for by no other, and the other way round: a mask is known by its bits, and a byte by
-- what it gives.
use Prim.Native.Nat.{ℕ, zero, suc, ◌+◌, ◌≤◌, ◌/◌, ◌%◌}
use mathlib.Core.Path.{◌≡◌, refl, sym, ◌∙◌}
use mathlib.Core.Bool.{Bool, cond, ◌&&◌}
use mathlib.Core.List.{List}
use native.Mathlib.Nat.{div-add-mod, mod-lt}
use native.Mathlib.Omega.{arith}
use borrow.Author.Tests.{lt-ltb}
use lib.Dec.{eqb, ltb}
use lib.ListN.{length, get_or}
use lib.Seq.{ext_get_or}
use Rattle.bits.specs.Masks.{has, AllUnder}
use Rattle.bits.proofs.Laws.Masks.{masks_same}
use Rattle.policy.specs.Modes.{gives_read, gives_write}
use Rattle.policy.specs.Tables.{Tables}
use Rattle.alike.specs.Bytes.{Bytes, pair_at, AreBytes, AreMasks, StandsFor}

-- Lists of masks with the same bits.
lists_same : (n w : ℕ) (xs ys : List ℕ) → length xs ≡ n → length ys ≡ n → AllUnder w xs → AllUnder w ys →
    ((k s : ℕ) → has (get_or xs k 0) s ≡ has (get_or ys k 0) s) → xs ≡ ys
lists_same n w xs ys lx ly ux uy h =
    ext_get_or 0 xs ys (lx ∙ sym ly) (λ k l. masks_same w (get_or xs k 0) (get_or ys k 0) (ux k) (uy k) (λ s m. h k s))

pub masks_only : (b : Bytes) (t t' : Tables) → AreMasks t → AreMasks t' → StandsFor b t → StandsFor b t' → t ≡ t'
masks_only b t t' m m' h h' =
    rw (
      sym h.segments ∙ h'.segments,
      sym h.partitions ∙ h'.partitions,
      sym h.slots ∙ h'.slots,
      h.unused ∙ sym h'.unused,
      lists_same 8 32 t.rights.reads t'.rights.reads m.reads_long m'.reads_long m.reads_under m'.reads_under
          (λ p s. sym (h.reads p s) ∙ h'.reads p s),
      lists_same 8 32 t.rights.writes t'.rights.writes m.writes_long m'.writes_long m.writes_under m'.writes_under
          (λ p s. sym (h.writes p s) ∙ h'.writes p s),
      lists_same 32 32 t.flows.sources t'.flows.sources m.sources_long m'.sources_long m.sources_under m'.sources_under
          (λ u s. sym (h.flow s u) ∙ h'.flow s u),
    )

-- A right's byte by what it gives, and a flow's.
abbrev mode_of : Bool → Bool → ℕ
mode_of r w = cond r 1 0 + cond w 2 0

mode_back : (m : ℕ) → m ≤ 3 → mode_of (gives_read m) (gives_write m) ≡ m
mode_back zero l = refl
mode_back (suc zero) l = refl
mode_back (suc (suc zero)) l = refl
mode_back (suc (suc (suc zero))) l = refl
mode_back (suc (suc (suc (suc m)))) l = absurd (omega arith)

one_back : (m : ℕ) → m ≤ 1 → cond (eqb m 1) 1 0 ≡ m
one_back zero l = refl
one_back (suc zero) l = refl
one_back (suc (suc m)) l = absurd (omega arith)

mode_only : (m n : ℕ) → m ≤ 3 → n ≤ 3 → gives_read m ≡ gives_read n → gives_write m ≡ gives_write n → m ≡ n
mode_only m n lm ln r w = sym (mode_back m lm) ∙ rw (r, w) (mode_back n ln)

one_only : (m n : ℕ) → m ≤ 1 → n ≤ 1 → eqb m 1 ≡ eqb n 1 → m ≡ n
one_only m n lm ln e = sym (one_back m lm) ∙ rw e (one_back n ln)

-- The bytes at the place of a pair, where the two views agree.
at_pair : (gives : ℕ → Bool) (xs ys : List ℕ) →
    ((p s : ℕ) → ltb s 32 && gives (get_or xs (pair_at p s) 0) ≡ ltb s 32 && gives (get_or ys (pair_at p s) 0)) →
    (k : ℕ) → gives (get_or xs k 0) ≡ gives (get_or ys k 0)
at_pair gives xs ys h k =
    let place : pair_at (k / 32) (k % 32) ≡ k = div-add-mod k 32 in
    let inside = lt-ltb (k % 32) 32 (mod-lt k (omega arith)) in
    rw (inside, place) at (h (k / 32) (k % 32))

pub bytes_only : (b b' : Bytes) (t : Tables) → AreBytes b → AreBytes b' → StandsFor b t → StandsFor b' t → b ≡ b'
bytes_only b b' t a a' h h' =
    rw (
      h.segments ∙ sym h'.segments,
      h.partitions ∙ sym h'.partitions,
      h.slots ∙ sym h'.slots,
      ext_get_or 0 b.rights b'.rights (a.rights_long ∙ sym a'.rights_long)
          (λ k l.
          mode_only (get_or b.rights k 0) (get_or b'.rights k 0) (a.rights_low k) (a'.rights_low k)
          (at_pair gives_read b.rights b'.rights (λ p s. h.reads p s ∙ sym (h'.reads p s)) k)
          (at_pair gives_write b.rights b'.rights (λ p s. h.writes p s ∙ sym (h'.writes p s)) k)),
      ext_get_or 0 b.flows b'.flows (a.flows_long ∙ sym a'.flows_long)
          (λ k l.
          one_only (get_or b.flows k 0) (get_or b'.flows k 0) (a.flows_low k) (a'.flows_low k)
          (at_pair (λ m. eqb m 1) b.flows b'.flows (λ s u. h.flow s u ∙ sym (h'.flow s u)) k)),
    )
