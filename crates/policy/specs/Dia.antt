-- Source document 000, section 3.3: "If seg0 is the memory segment corresponding to the portion of the kernel partition
-- save area of partition A, then segs(A) should be equal to dia(seg0)". Here seg0 is the save segment of p, segs(A) is R(p),
-- and dia(t) are the sources of the flow lines into t.
use Rattle.std.specs.Prelude.{ℕ, ◌<◌, ◌≡◌, true, ◌↔◌}
use Rattle.policy.specs.View.{View}
use Rattle.policy.specs.Access.{readable}

-- The segment itself is left out: R(p) holds it, but a line from a segment to itself is refused by 5. 000's exception, a
-- loader that is in dia(seg0) "so that it can initialize the partition", is not taken over: Start does that.
abbrev pub SaveDia : View → Type 0
SaveDia v =
    (p s : ℕ) → p < v.partitions → s < v.segments →
    (v.flow s (v.save p) ≡ true) ↔ ((readable v p s ≡ true) × (s ≡ v.save p → ⊥))
