-- 01, "The demonstration head": the text, a line at a time.
use Rattle.std.specs.Prelude.{ℕ, List, [], ◌∷◌, ◌++◌}
use Rattle.text.specs.Bytes.{bytes_of}

abbrev pub joined : List (List ℕ) → List ℕ
joined [] = []
joined (l ∷ ls) = l ++ joined ls

abbrev pub segments : List (List ℕ)
segments =
    bytes_of "segment\t0\t0\t64\n"
    ∷ bytes_of "segment\t1\t64\t44\n"
    ∷ bytes_of "segment\t2\t128\t64\n"
    ∷ bytes_of "segment\t3\t192\t44\n"
    ∷ bytes_of "segment\t4\t256\t16\n"
    ∷ []

abbrev pub partitions : List (List ℕ)
partitions = bytes_of "partition\t0\t0\t1\n" ∷ bytes_of "partition\t1\t2\t3\n" ∷ []

abbrev pub rights : List (List ℕ)
rights =
    bytes_of "right\t0\t0\tr\n"
    ∷ bytes_of "right\t0\t4\tw\n"
    ∷ bytes_of "right\t1\t2\tr\n"
    ∷ bytes_of "right\t1\t4\tr\n"
    ∷ []

abbrev pub flows : List (List ℕ)
flows =
    bytes_of "flow\t0\t1\n"
    ∷ bytes_of "flow\t0\t4\n"
    ∷ bytes_of "flow\t1\t4\n"
    ∷ bytes_of "flow\t2\t3\n"
    ∷ bytes_of "flow\t4\t3\n"
    ∷ []

abbrev pub slots : List (List ℕ)
slots = bytes_of "slot\t0\t3\n" ∷ bytes_of "slot\t1\t2\n" ∷ []

abbrev pub demonstration : List (List ℕ)
demonstration = segments ++ partitions ++ rights ++ flows ++ slots

-- 02, S-4: "Several texts may now give one record": the same with each number in hexadecimal.
abbrev pub in_hexadecimal : List (List ℕ)
in_hexadecimal =
    bytes_of "segment\t0x0\t0x0\t0x40\n"
    ∷ bytes_of "segment\t0x1\t0x40\t0x2c\n"
    ∷ bytes_of "segment\t0x2\t0x80\t0x40\n"
    ∷ bytes_of "segment\t0x3\t0xc0\t0x2c\n"
    ∷ bytes_of "segment\t0x4\t0x100\t0x10\n"
    ∷ bytes_of "partition\t0x0\t0x0\t0x1\n"
    ∷ bytes_of "partition\t0x1\t0x2\t0x3\n"
    ∷ bytes_of "right\t0x0\t0x0\tr\n"
    ∷ bytes_of "right\t0x0\t0x4\tw\n"
    ∷ bytes_of "right\t0x1\t0x2\tr\n"
    ∷ bytes_of "right\t0x1\t0x4\tr\n"
    ∷ bytes_of "flow\t0x0\t0x1\n"
    ∷ bytes_of "flow\t0x0\t0x4\n"
    ∷ bytes_of "flow\t0x1\t0x4\n"
    ∷ bytes_of "flow\t0x2\t0x3\n"
    ∷ bytes_of "flow\t0x4\t0x3\n"
    ∷ bytes_of "slot\t0x0\t0x3\n"
    ∷ bytes_of "slot\t0x1\t0x2\n"
    ∷ []
