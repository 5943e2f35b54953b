-- What rule 8 asks, as masks of segments.
use Rattle.std.specs.Prelude.{ℕ, zero, suc, ◌<◌, ◌≤◌, ◌≡◌, Bool, ◌||◌, cond, List, eqb, get_or, length}
use Rattle.std.specs.Int.Bits.{bit_or}
use Rattle.bits.specs.Masks.{has, mask_of}

-- The arrays have an entry for each partition.
abbrev pub HasPartitions : ℕ → List ℕ → List ℕ → List ℕ → Type 0
HasPartitions partitions save reads writes =
    (partitions ≤ length save) × (partitions ≤ length reads) × (partitions ≤ length writes)

-- Whether p reaches s by the masks: it is its save segment, or they give it. R(p) by the read masks, W(p) by the write
-- masks.
abbrev pub reach : List ℕ → List ℕ → ℕ → ℕ → Bool
reach save masks p s = eqb s (get_or save p 0) || has (get_or masks p 0) s

-- Entry p is the mask of the segments that p reaches, for each partition.
abbrev pub AreReached : List ℕ → List ℕ → ℕ → ℕ → List ℕ → Type 0
AreReached save masks segments partitions list =
    (p : ℕ) → p < partitions → get_or list p 0 ≡ mask_of segments (reach save masks p)

-- The bits that some of the first n masks have.
unfoldable pub joined : List ℕ → ℕ → ℕ
joined list zero = 0
joined list (suc n) = bit_or (joined list n) (get_or list n 0)

-- The sources that rule 8 asks for into t: what is reached by those of the first partitions that may write t.
unfoldable pub asked_into : List ℕ → List ℕ → ℕ → ℕ → ℕ
asked_into reached written t zero = 0
asked_into reached written t (suc p) =
    bit_or (asked_into reached written t p) (cond (has (get_or written p 0) t) (get_or reached p 0) 0)
