-- Texts written as such, and the test whether two byte strings are the same.
use Prim.Native.String.{String, [], ◌∷◌}
use Prim.Native.Char.{code}
use Rattle.std.specs.Prelude.{ℕ, Bool, true, false, ◌&&◌, List, eqb}
use mathlib.Core.List as L

-- The bytes of a text of ASCII characters.
abbrev pub bytes_of : String → List ℕ
bytes_of [] = L.[]
bytes_of (c ∷ s) = L.◌∷◌ (code c) (bytes_of s)

-- Whether two byte strings have the same bytes in the same order.
unfoldable pub same : List ℕ → List ℕ → Bool
same L.[] L.[] = true
same L.[] (L.◌∷◌ b bs) = false
same (L.◌∷◌ a as') L.[] = false
same (L.◌∷◌ a as') (L.◌∷◌ b bs) = eqb a b && same as' bs
