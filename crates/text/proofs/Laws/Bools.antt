-- The parts of a test that is a sum or a product of two, and tests of sums: by cases.
use Prim.Native.Nat.{ℕ, ◌+◌}
use mathlib.Core.Path.{◌≡◌, refl}
use mathlib.Core.Bool.{Bool, true, false, ◌&&◌, ◌||◌}
use native.Mathlib.Omega.{arith}
use borrow.Author.Tests.{ltb-true, ltb-false, lt-ltb, le-ltb, eqb-true, eqb-false, eq-eqb, ne_eqb}
use lib.Dec.{eqb, ltb}

pub or_left : (a b : Bool) → a || b ≡ false → a ≡ false
or_left true b h = h
or_left false b h = refl

pub or_right : (a b : Bool) → a || b ≡ false → b ≡ false
or_right true b h = absurd (let z : ◌≡◌ {A = Bool} true false = h in let y : ◌≡◌ {A = ℕ} 0 1 = cc in omega arith)
or_right false b h = h

pub and_left : (a b : Bool) → a && b ≡ true → a ≡ true
and_left true b h = refl
and_left false b h = h

pub and_right : (a b : Bool) → a && b ≡ true → b ≡ true
and_right true b h = h
and_right false b h = absurd (let y : ◌≡◌ {A = ℕ} 0 1 = cc in omega arith)

pub eqb-sum : (a k : ℕ) → eqb (a + k) a ≡ eqb k 0
eqb-sum a k = go (eqb k 0) refl
  where
    go : (t : Bool) → eqb k 0 ≡ t → eqb (a + k) a ≡ t
    go true e = eq-eqb (a + k) a (omega (arith, eqb-true k 0 e))
    go false e = ne_eqb (a + k) a (λ q. eqb-false k 0 e (omega arith))

pub ltb-sum : (a j k : ℕ) → ltb (a + j) (a + k) ≡ ltb j k
ltb-sum a j k = go (ltb j k) refl
  where
    go : (t : Bool) → ltb j k ≡ t → ltb (a + j) (a + k) ≡ t
    go true e = lt-ltb (a + j) (a + k) (omega (arith, ltb-true j k e))
    go false e = le-ltb (a + j) (a + k) (omega (arith, ltb-false j k e))
