-- A part of memory after stores inside it and outside it, and a part put back as stores: by induction on the bytes stored.
use Prim.Native.Nat.{ℕ, suc, ◌+◌, ◌-◌, ◌≤◌, ◌<◌}
use native.Mathlib.Omega.{arith}
use native.Mathlib.Nat.{add-suc}
use mathlib.Core.Path.{◌≡◌, refl, sym, ◌∙◌, ap}
use mathlib.Core.Logic.{◌⊎◌, inl, inr, ⊎_elim}
use mathlib.Core.List.{List, [], ◌∷◌, append_assoc}
use lib.ListN.{length, get_or, set, take, drop}
use borrow.Rule.Slice.PartMut.{put_same}
use lib.Seq.{sets, sets-eq, drop-drop, take-set-lt, drop-set-add, drop-set-lt, take-set-le, get_or-set_other}
use Rattle.machine.specs.Bytes.{part, with_part}

pub part-set : (base len i v : ℕ) (m : List ℕ) → i < len → part (set m (base + i) v) base len ≡ set (part m base len) i v
part-set base len i v m h = rw (drop-set-add, take-set-lt)

pub part-set_other : (base len j v : ℕ) (m : List ℕ) → (j < base) ⊎ (base + len ≤ j) → part (set m j v) base len ≡ part m base len
part-set_other base len j v m (inl h) = rw drop-set-lt
part-set_other base len j v m (inr h) =
    let e : base + (j - base) ≡ j = omega arith in
    let le : len ≤ j - base = omega arith in
    rw (← e, drop-set-add, take-set-le)

pub part-sets : (base len i : ℕ) (vs : List ℕ) (m : List ℕ) → i + length vs ≤ len → part (sets m (base + i) vs) base len ≡ sets (part m base len) i vs
part-sets base len i [] m h = refl
part-sets base len i (v ∷ vs) m h =
    rw (← add-suc)
    (part-sets base len (suc i) vs (set m (base + i) v) (omega arith)
    ∙ ap (λ b. sets b (suc i) vs) (part-set base len i v m (omega arith)))

pub part-sets_other : (base len j : ℕ) (vs : List ℕ) (m : List ℕ) → (j + length vs ≤ base) ⊎ (base + len ≤ j) → part (sets m j vs) base len ≡ part m base len
part-sets_other base len j [] m h = refl
part-sets_other base len j (v ∷ vs) m h =
    part-sets_other base len (suc j) vs (set m j v) (⊎_elim (λ i. inl (omega arith)) (λ i. inr (omega arith)) h)
    ∙ part-set_other base len j v m (⊎_elim (λ i. inl (omega arith)) (λ i. inr (omega arith)) h)

pub get_d_sets_other : (k i : ℕ) (vs : List ℕ) (m : List ℕ) → (i < k) ⊎ (k + length vs ≤ i) → get_or (sets m k vs) i 0 ≡ get_or m i 0
get_d_sets_other k i [] m h = refl
get_d_sets_other k i (v ∷ vs) m h =
    get_d_sets_other (suc k) i vs (set m k v) (⊎_elim (λ j. inl (omega arith)) (λ j. inr (omega arith)) h)
    ∙ get_or-set_other m k i v 0 (λ e. ⊎_elim (λ j. omega arith) (λ j. omega arith) h)

-- The joining law: a part put back whole is a store of its bytes.
pub with-sets : (m : List ℕ) (a k : ℕ) (ys : List ℕ) → a + k ≤ length m → length ys ≡ k → with_part m a k ys ≡ sets m a ys
with-sets m a k ys fits long =
    rw (sets-eq ys m a (omega arith), long, drop-drop) (sym (append_assoc (take a m) ys (drop (a + k) m)))

-- Bytes stored into a part, and the part put back, are stored at their place in memory: by induction on the bytes.
set-outside : (m : List ℕ) (a k j v : ℕ) (ys : List ℕ) → j < k → with_part (set m (a + j) v) a k ys ≡ with_part m a k ys
set-outside m a k j v ys h = rw (take-set-le a m (a + j) v (omega arith), drop-set-add, drop-set-lt)

pub with-part-sets : (m : List ℕ) (a k j : ℕ) (vs : List ℕ) → j + length vs ≤ k → with_part m a k (sets (part m a k) j vs) ≡ sets m (a + j) vs
with-part-sets m a k j [] h = put_same a k m
with-part-sets m a k j (v ∷ vs) h =
    rw (← part-set a k j v m (omega arith), ← set-outside m a k j v (sets (part (set m (a + j) v) a k) (suc j) vs) (omega arith), ← add-suc)
    (with-part-sets (set m (a + j) v) a k (suc j) vs (omega arith))
