-- A part of memory, and numbers of so many bytes in it.
use Rattle.std.specs.Prelude.{ℕ, zero, suc, ◌+◌, ◌*◌, ◌/◌, ◌%◌, List, [], ◌∷◌, ◌++◌, get_or, take, drop}

-- The `size` bytes from `base` on.
abbrev pub part : List ℕ → ℕ → ℕ → List ℕ
part memory base size = take size (drop base memory)

-- The same memory with other bytes in their place.
abbrev pub with_part : List ℕ → ℕ → ℕ → List ℕ → List ℕ
with_part memory base size bytes = take base memory ++ (bytes ++ drop size (drop base memory))

-- 02, S-2: "four bytes, little-endian": the number that `width` bytes from a place on are, lowest first.
unfoldable pub little : ℕ → List ℕ → ℕ → ℕ
little zero bytes at = 0
little (suc width) bytes at = get_or bytes at 0 + 256 * little width bytes (at + 1)

-- A number's lowest `width` bytes, lowest first.
unfoldable pub digits : ℕ → ℕ → List ℕ
digits zero n = []
digits (suc width) n = n % 256 ∷ digits width (n / 256)
