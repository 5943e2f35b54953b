-- 01: "Pend a line. 9, 10, then 11: no such partition. 12: line above 7. Else that pended bit becomes 1 and no other
-- bit of memory changes."
use Rattle.std.specs.Prelude.{ℕ, ◌+◌, ◌^◌, List, [], ◌∷◌, get_or, set, leb, ltb, Ok, Err}
use Rattle.std.specs.Int.Bits.{bit_or}
use Rattle.policy.specs.First.{first_of}
use Rattle.policy.specs.View.{View}
use Rattle.machine.specs.Layout.{layout}
use Rattle.calls.specs.Under.{Under}
use Rattle.calls.specs.declared.Refused.TheVariants.{WrongMemory, Unsound, NoPartition, NoLine}
use Rattle.calls.specs.Outcomes.{Outcome, wrong_memory, unsound, acts}

-- Lines are numbered from 0; 12: "line above 7"
abbrev pub last_line : ℕ
last_line = 7

unfoldable pub pend_outcome : Under → List ℕ → ℕ → ℕ → Outcome
pend_outcome u memory partition line =
    first_of (Ok tt)
    (record { applies = wrong_memory u.limits memory; answer = Err WrongMemory }
    ∷ record { applies = unsound u; answer = Err Unsound }
    ∷ record { applies = leb u.view.partitions partition; answer = Err NoPartition }
    ∷ record { applies = ltb last_line line; answer = Err NoLine }
    ∷ [])

-- Where the pended lines of a partition stand.
abbrev pub pended_at : View → ℕ → ℕ
pended_at v partition = v.base (v.save partition) + layout.pended

-- "pended lines 36 .., one bit a line, line 0 the lowest"
unfoldable pub with_line : View → ℕ → ℕ → List ℕ → List ℕ
with_line v partition line memory =
    set memory (pended_at v partition) (bit_or (get_or memory (pended_at v partition) 0) (2 ^ line))

-- Memory after a Pend.
unfoldable pub after_pend : Under → List ℕ → ℕ → ℕ → List ℕ
after_pend u memory partition line =
    acts (pend_outcome u memory partition line) (with_line u.view partition line memory) memory
