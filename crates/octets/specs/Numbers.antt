-- 01, "Memory and policy": "little-endian". Numbers of two and of four bytes, lowest byte first; a byte past the end
-- counts as 0.
use Rattle.std.specs.Prelude.{ℕ, ◌+◌, ◌*◌, ◌%◌, ◌/◌, List, get_or, set}

unfoldable pub half : List ℕ → ℕ → ℕ
half bytes at = get_or bytes at 0 + get_or bytes (at + 1) 0 * 256

unfoldable pub word : List ℕ → ℕ → ℕ
word bytes at =
    get_or bytes at 0 + get_or bytes (at + 1) 0 * 256 + get_or bytes (at + 2) 0 * 65536 + get_or bytes (at + 3) 0 * 16777216

-- The same bytes with a number of two bytes at a place, modulo 65,536.
unfoldable pub with_half : List ℕ → ℕ → ℕ → List ℕ
with_half bytes at n = set (set bytes at (n % 256)) (at + 1) (n / 256 % 256)

-- With one of four bytes, modulo 4,294,967,296.
unfoldable pub with_word : List ℕ → ℕ → ℕ → List ℕ
with_word bytes at n =
    set (set (set (set bytes at (n % 256)) (at + 1) (n / 256 % 256)) (at + 2) (n / 65536 % 256)) (at + 3)
    (n / 16777216 % 256)
