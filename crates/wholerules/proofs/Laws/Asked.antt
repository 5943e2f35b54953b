-- The masks of rule 8 bit by bit: what a partition reaches is its save segment and what its mask gives, and what is asked for into t is
-- what some partition reaches that may write t.
use Prim.Native.Nat.{ℕ, zero, suc, ◌+◌, ◌^◌, ◌<◌, ◌≤◌}
use mathlib.Core.Path.{◌≡◌, refl, sym, ◌∙◌}
use mathlib.Core.Bool.{Bool, true, false, cond, ◌&&◌, ◌||◌, and-true}
use mathlib.Core.List.{List}
use native.Mathlib.Nat.{lt_of_le_of_lt, pow-suc}
use native.Mathlib.Numerals.{add-one}
use native.Mathlib.Omega.{arith}
use lib.Bits.{bit_and, bit_or, and_le_r, or_lt}
use lib.Dec.{eqb}
use lib.ListN.{get_or, length, set}
use lib.Pow.{pow_pos}
use lib.Seq.{get_or-set_same, get_or-set_other}
use Rattle.bits.specs.Masks.{has, mask_of}
use Rattle.bits.proofs.Laws.Masks.{has-and, has_none, has-or, mask_under, within_at, within_of}
use Rattle.bits.proofs.Laws.Sets.{has_below, mask_is}
use Rattle.policy.specs.Below.{some_below}
use Rattle.policy.proofs.Laws.Below.{some_at, some_found}
use Rattle.policy.proofs.Laws.Bools.{and_right}
use Rattle.wholerules.specs.Masks.{asked_into, joined}

module _ (n own there byte : ℕ) (few : n ≤ 64) (o : own ≡ mask_of 64 (λ u. eqb u byte)) (t : there ≡ mask_of n (λ s. true)) where
  pub reached_is : (mask k m : ℕ) → byte ≡ k → mask ≡ m →
      bit_and (bit_or own mask) there ≡ mask_of n (λ s. eqb s k || has m s)
  reached_is mask k m b e =
      mask_is n (bit_and (bit_or own mask) there) (λ s. eqb s k || has m s)
      (lt_of_le_of_lt (and_le_r (bit_or own mask) there) (rw t (mask_under (λ s. true) n)))
      (λ s l.
      has-and (bit_or own mask) there s
      ∙ rw (
        has-or own mask s,
        o,
        t,
        has_below (λ u. eqb u byte) 64 s (omega arith),
        has_below (λ s. true) n s l,
        and-true,
        b,
        e,
      ))

module _ (list : List ℕ) where
  pub has_joined : (n s : ℕ) → has (joined list n) s ≡ some_below n (λ p. has (get_or list p 0) s)
  unfolding joined some_below
  has_joined zero s = has_none s
  has_joined (suc p) s = has-or (joined list p) (get_or list p 0) s ∙ rw (has_joined p s)

  pub joined_next : (i every more : ℕ) → every ≡ joined list i → more ≡ get_or list i 0 → bit_or every more ≡ joined list (i + 1)
  unfolding joined
  joined_next i every more e m = rw (add-one, e, m)

  joined_kept : (i value n : ℕ) → n ≤ i → joined (set list i value) n ≡ joined list n
  unfolding joined
  joined_kept i value zero l = refl
  joined_kept i value (suc n) l =
      rw (joined_kept i value n (omega arith), get_or-set_other list i n value 0 (λ q. omega arith))

  pub joined_more : (i every value : ℕ) → i < length list → every ≡ joined list i →
      bit_or every value ≡ joined (set list i value) (i + 1)
  unfolding joined
  joined_more i every value l e = rw (add-one, e, joined_kept i value i (omega arith), get_or-set_same list i value 0 l)

own_width : (m : ℕ) → m < 2 ^ m
own_width zero = omega arith
own_width (suc m) = rw pow-suc (omega (arith, own_width m))

pub has-cond : (b : Bool) (m s : ℕ) → has (cond b m 0) s ≡ b && has m s
has-cond true m s = refl
has-cond false m s = has_none s

module _ (reached written : List ℕ) (t : ℕ) where
  pub asked_more : (p : ℕ) (asked more : ℕ) → asked ≡ asked_into reached written t p →
      more ≡ cond (has (get_or written p 0) t) (get_or reached p 0) 0 → bit_or asked more ≡ asked_into reached written t (p + 1)
  unfolding asked_into
  asked_more p asked more a m = rw (add-one, a, m)

  pub has_asked : (n s : ℕ) →
      has (asked_into reached written t n) s ≡ some_below n (λ p. has (get_or written p 0) t && has (get_or reached p 0) s)
  unfolding asked_into some_below
  has_asked zero s = has_none s
  has_asked (suc p) s =
      has-or (asked_into reached written t p) (cond (has (get_or written p 0) t) (get_or reached p 0) 0) s
      ∙ rw (has_asked p s, has-cond (has (get_or written p 0) t) (get_or reached p 0) s)

  -- What is asked for is reached.
  asked_at : (n s : ℕ) → has (asked_into reached written t n) s ≡ true → has (joined reached n) s ≡ true
  asked_at n s h =
      let a = some_at (λ p. has (get_or written p 0) t && has (get_or reached p 0) s) n (sym (has_asked n s) ∙ h) in
      has_joined reached n s
      ∙ some_found (λ p. has (get_or reached p 0) s) n a.number a.below
      (and_right (has (get_or written a.number 0) t) (has (get_or reached a.number 0) s) a.passes)

  pub asked_within : (n allowed : ℕ) → bit_and (joined reached n) allowed ≡ joined reached n →
      bit_and (asked_into reached written t n) allowed ≡ asked_into reached written t n
  asked_within n allowed e =
      let asked = asked_into reached written t n in
      within_of asked asked allowed (own_width asked) (λ s l h. within_at (joined reached n) allowed e s (asked_at n s h))

  pub asked_under : (w n : ℕ) → ((p : ℕ) → p < n → get_or reached p 0 < 2 ^ w) → asked_into reached written t n < 2 ^ w
  unfolding asked_into
  asked_under w zero h = pow_pos w
  asked_under w (suc p) h =
      or_lt w (asked_into reached written t p) (cond (has (get_or written p 0) t) (get_or reached p 0) 0)
      (asked_under w p (λ q l. h q (omega arith)))
      (go (has (get_or written p 0) t))
    where
      go : (b : Bool) → cond b (get_or reached p 0) 0 < 2 ^ w
      go true = h p (omega arith)
      go false = pow_pos w
