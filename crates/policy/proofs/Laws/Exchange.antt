-- Whether some pair passes a test does not depend on which of the two is looked for first: by induction on one bound, and on the other
-- for a test that is a sum.
use Prim.Native.Nat.{ℕ, zero, suc}
use mathlib.Core.Path.{◌≡◌, refl, sym}
use mathlib.Core.Bool.{Bool, true, false, ◌||◌}
use Rattle.policy.specs.Below.{some_below}
use Rattle.policy.proofs.Laws.Below.{none_of}

or_swap : (a b c d : Bool) → (a || b) || (c || d) ≡ (a || c) || (b || d)
or_swap true b c d = refl
or_swap false true true d = refl
or_swap false true false d = refl
or_swap false false c d = refl

some_or : (f g : ℕ → Bool) (n : ℕ) → some_below n (λ i. f i || g i) ≡ some_below n f || some_below n g
unfolding some_below
some_or f g zero = refl
some_or f g (suc n) = rw (some_or f g n) (or_swap (some_below n f) (some_below n g) (f n) (g n))

pub some_exchange : (f : ℕ → ℕ → Bool) (n m : ℕ) →
    some_below n (λ p. some_below m (λ t. f p t)) ≡ some_below m (λ t. some_below n (λ p. f p t))
unfolding some_below
some_exchange f zero m = sym (none_of (λ t. false) m (λ i l. refl))
some_exchange f (suc n) m =
    rw (some_exchange f n m) (sym (some_or (λ t. some_below n (λ p. f p t)) (λ t. f n t) m))
