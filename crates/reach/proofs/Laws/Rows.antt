-- A list of the numbers that pass a test holds just those, ascending.
use Prim.Native.Nat.{ℕ, zero, suc, ◌<◌}
use mathlib.Core.Path.{◌≡◌, refl, sym, ap, ◌∙◌}
use mathlib.Core.Bool.{Bool, true, false, cond}
use mathlib.Core.Logic.{◌⊎◌, inl, inr}
use mathlib.Core.List.Memᴰ
use mathlib.Core.List.{List, [], ◌∷◌, ◌++◌, Memᴰ, append-nil}
use native.Mathlib.Omega.{arith}
use native.Mathlib.Decide.{dec_lt}
use Rattle.reach.specs.Rows.{those_below}
use Rattle.reach.specs.Exact.{Ascending, none, then}

module _ (test : ℕ → Bool) where
  pub those_pass : (n s : ℕ) → Memᴰ s (those_below n test) → (s < n) × (test s ≡ true)
  unfolding those_below
  those_pass zero s m = absurd (Memᴰ.not-nil m)
  those_pass (suc n) s m = go (Memᴰ.append_cases (those_below n test) m) (those_pass n s)
    where
      last : (b : Bool) → test n ≡ b → Memᴰ s (cond b (n ∷ []) []) → (s < suc n) × (test s ≡ true)
      last true e m = let q : s ≡ n = Memᴰ.eq_of_singleton m in (omega arith, rw q e)
      last false e m = absurd (Memᴰ.not-nil m)

      go : Memᴰ s (those_below n test) ⊎ Memᴰ s (cond (test n) (n ∷ []) []) →
          (Memᴰ s (those_below n test) → (s < n) × (test s ≡ true)) →
          (s < suc n) × (test s ≡ true)
      go (inl m) before = let p = before m in (omega (arith, p.0), p.1)
      go (inr m) before = last (test n) refl m

  pub those_hold : (n s : ℕ) → s < n → test s ≡ true → Memᴰ s (those_below n test)
  unfolding those_below
  those_hold zero s l e = absurd (omega arith)
  those_hold (suc n) s l e = go (dec_lt s n) (those_hold n s)
    where
      go : Dec (s < n) → (s < n → test s ≡ true → Memᴰ s (those_below n test)) → Memᴰ s (those_below (suc n) test)
      go (yes m) before = Memᴰ.append_left _ (before m e)
      go (no m) before =
          let q : s ≡ n = omega arith in
          let f : test n ≡ true = sym (ap test q) ∙ e in
          rw f (Memᴰ.append_right (those_below n test) (Memᴰ.head q))

  -- One number more, above all.
  ascend_last : (ns : List ℕ) (n : ℕ) → Ascending ns → ((m : ℕ) → Memᴰ m ns → m < n) → Ascending (ns ++ n ∷ [])
  ascend_last [] n a h = then (λ m i. absurd (Memᴰ.not-nil i)) none
  ascend_last (k ∷ ns) n (then b a) h =
      then (λ m i. go m (Memᴰ.append_cases ns i)) (ascend_last ns n a (λ m i. h m (Memᴰ.tail i)))
    where
      go : (m : ℕ) → Memᴰ m ns ⊎ Memᴰ m (n ∷ []) → k < m
      go m (inl i) = b m i
      go m (inr i) = let q : m ≡ n = Memᴰ.eq_of_singleton i in rw q (h k (Memᴰ.head refl))

  pub those_ascend : (n : ℕ) → Ascending (those_below n test)
  unfolding those_below
  those_ascend zero = none
  those_ascend (suc n) = go (test n) (those_ascend n)
    where
      go : (b : Bool) → Ascending (those_below n test) → Ascending (those_below n test ++ cond b (n ∷ []) [])
      go true a = ascend_last (those_below n test) n a (λ m i. (those_pass n m i).0)
      go false a = rw append-nil a

pub those_same : (f g : ℕ → Bool) (n : ℕ) → ((s : ℕ) → s < n → f s ≡ g s) → those_below n f ≡ those_below n g
unfolding those_below
those_same f g zero h = refl
those_same f g (suc n) h = rw (those_same f g n (λ s l. h s (omega arith)), h n (omega arith))
