-- The parts of a test that is a sum or a product, passed on from below, and when two tests are the same: by cases.
use mathlib.Core.Path.{◌≡◌, refl, sym}
use mathlib.Core.Bool.{Bool, true, false, ◌&&◌, ◌||◌}
pub use Rattle.text.proofs.Laws.Bools.{or_left, or_right, and_left, and_right}

-- All parts of a sum of two, and of three.
pub or_both : (a b : Bool) → a || b ≡ false → (a ≡ false) × (b ≡ false)
or_both a b h = (or_left a b h, or_right a b h)

pub or_all : (a b c : Bool) → a || b || c ≡ false → ((a ≡ false) × (b ≡ false)) × (c ≡ false)
or_all a b c h = (or_both a b (or_left (a || b) c h), or_right (a || b) c h)

-- A product from its parts.
pub and_both : (a b : Bool) → a ≡ true → b ≡ true → a && b ≡ true
and_both a b e f = rw (e, f)

pub same_truth : (a b : Bool) → (a ≡ true → b ≡ true) → (b ≡ true → a ≡ true) → a ≡ b
same_truth true b f g = sym (f refl)
same_truth false true f g = g refl
same_truth false false f g = refl

pub not_so : (a : Bool) → (a ≡ true → ⊥) → a ≡ false
not_so true h = absurd (h refl)
not_so false h = refl

-- Where one of two holds, what each gives.
pub or_cases : {A : Type 0} (a b : Bool) → a || b ≡ true → (a ≡ true → A) → (b ≡ true → A) → A
or_cases true b h f g = f refl
or_cases false b h f g = g h
