-- 01, refusals 6, 7 and 8, and 02's 16: what is asked of the whole policy.
use Rattle.std.specs.Prelude.{ℕ, Bool, ◌&&◌, ◌||◌, not, eqb}
use Rattle.policy.specs.Below.{some_below}
use Rattle.policy.specs.View.{View}
use Rattle.policy.specs.Access.{readable, writable}

-- 6: "no segment, partition or slot"
unfoldable pub incomplete : View → Bool
incomplete v = eqb v.segments 0 || eqb v.partitions 0 || eqb v.slots 0

-- 7: "a partition lacks r on its code segment"
unfoldable pub code_unreadable : View → Bool
code_unreadable v = some_below v.partitions (λ p. not (v.reads p (v.code p)))

-- 8: "for some p, t in W(p) and s in R(p) other than t, "flow s t" is missing"
abbrev pub flow_lacks : View → ℕ → ℕ → ℕ → Bool
flow_lacks v p t s = writable v p t && readable v p s && not (eqb s t) && not (v.flow s t)

unfoldable pub flow_missing : View → Bool
flow_missing v =
    some_below v.partitions (λ p. some_below v.segments (λ t. some_below v.segments (λ s. flow_lacks v p t s)))

-- 02, S-5: "a flow line into p's save segment must come from a segment of R(p)"
abbrev pub may_enter : View → ℕ → ℕ → Bool
may_enter v p s = readable v p s

-- 16: "if a flow line into a save segment has another source": "flow s t" with t the save segment of p
abbrev pub flow_strays : View → ℕ → ℕ → Bool
flow_strays v p s = v.flow s (v.save p) && not (may_enter v p s)

unfoldable pub stray_flow : View → Bool
stray_flow v = some_below v.partitions (λ p. some_below v.segments (λ s. flow_strays v p s))
