-- The chains that the rows tell are document 01's.
use Prim.Native.Nat.{ℕ, zero, suc, ◌<◌, ◌≤◌}
use mathlib.Core.Path.{◌≡◌}
use mathlib.Core.Bool.{Bool, true}
use mathlib.Core.Logic.{⊎_map}
use native.Mathlib.Omega.{arith}
use Rattle.policy.specs.View.{View}
use Rattle.policy.specs.Chain.{Chain, one, more}
use Rattle.reach.specs.Via.{via, reaches}
use Rattle.reach.specs.Exact.{Exact, RowExact, Self, Sources}
use Rattle.reach.proofs.Laws.Via.{later, line_then, split}
use Rattle.reach.proofs.Laws.Rows.{those_pass, those_hold, those_ascend}

-- One chain after another.
pub append : (v : View) {s u t : ℕ} → Chain v s u → Chain v u t → Chain v s t
append v (one line) d = more line d
append v (more line c) d = more line (append v c d)

module _ (v : View) where
  found : {s t : ℕ} → Chain v s t → reaches v s t ≡ true
  unfolding via
  found {s} {t} (one line) = later v.flow v.segments 0 s t (omega arith) line.stands
  found {s} {t} (more {u = u} line c) = line_then v.flow v.segments s u t line.to line.stands (found c)

  true_chain : (k s t : ℕ) → k ≤ v.segments → s < v.segments → t < v.segments → via v.flow k s t ≡ true → Chain v s t
  unfolding via
  true_chain zero s t l a b h = one (record { from = a; to = b; stands = h })
  true_chain (suc k) s t l a b h =
      split v.flow k s t h (true_chain k s t (omega arith) a b)
      (λ i j. append v (true_chain k s k (omega arith) a l i) (true_chain k k t (omega arith) l b j))

  pub exact : Exact v
  exact s t a b = (true_chain v.segments s t (omega arith) a b, found)

  module _ (t : ℕ) (b : t < v.segments) where
    abbrev test : ℕ → Bool
    test s = reaches v s t

    pub row_exact : RowExact v t
    row_exact =
        record {
          just = λ s. (
            λ m. let p = those_pass test v.segments s m in (exact s t p.0 b).0 p.1,
            λ c. those_hold test v.segments s (begins c) (found c),
          );
          ascends = those_ascend test v.segments;
          segments = λ s m. (those_pass test v.segments s m).0;
        }
      where
        begins : {s : ℕ} → Chain v s t → s < v.segments
        begins (one line) = line.from
        begins (more line c) = line.from

    pub self : Self v t
    self = row_exact.just t

    pub sources : Sources v t
    sources s = (
      ⊎_map (λ q. q) (row_exact.just s).0,
      ⊎_map (λ q. q) (row_exact.just s).1,
    )
