-- S-3's theorems, for every view, sound or not: what the check by target has found after each target is what is missing up to it, and
-- after the last one it is rule 8's answer.
use Prim.Native.Nat.{ℕ, zero, suc, ◌+◌, ◌<◌, ◌≤◌}
use mathlib.Core.Path.{◌≡◌, refl, sym, ◌∙◌}
use mathlib.Core.Bool.{Bool, true, false, ◌||◌, or-true, true≢false}
use mathlib.Core.Logic.{◌↔◌}
use native.Mathlib.Numerals.{add-one}
use native.Mathlib.Omega.{arith}
use native.Mathlib.Decide.{dec_lt}
use borrow.Author.Tests.{eqb-false, ne_eqb, not-true}
use Rattle.policy.specs.Below.{some_below}
use Rattle.policy.specs.View.{View}
use Rattle.policy.specs.Whole.{flow_lacks, flow_missing}
use Rattle.policy.specs.ByTarget.{MissingInto, MissingAmong, partition_lacks, target_lacks, found_after}
use Rattle.policy.proofs.Laws.Below.{some_found, some_at}
use Rattle.policy.proofs.Laws.Exchange.{some_exchange}
use Rattle.policy.proofs.Laws.Tests.{parts}

module _ (v : View) where
  -- One target: its test tells whether a line into it is missing.
  missing_lacks : (t : ℕ) → MissingInto v t → target_lacks v t ≡ true
  missing_lacks t m =
      some_found (partition_lacks v t) v.partitions m.p m.partition_there
      (some_found (flow_lacks v m.p t) v.segments m.s m.source_there
      (rw (m.written, m.read, ne_eqb m.s t m.another, m.missing)))

  lacks_missing : (t : ℕ) → t < v.segments → target_lacks v t ≡ true → MissingInto v t
  lacks_missing t l h =
      let a = some_at (partition_lacks v t) v.partitions h in
      let b = some_at (flow_lacks v a.number t) v.segments a.passes in
      let r = b.passes in
      record {
        p = a.number;
        s = b.number;
        partition_there = a.below;
        target_there = l;
        source_there = b.below;
        written = search parts;
        read = search parts;
        another = eqb-false b.number t (not-true _ (search parts));
        missing = not-true _ (search parts);
      }

  pub target_exact : (t : ℕ) → t < v.segments → target_lacks v t ≡ true ↔ MissingInto v t
  target_exact t l = (lacks_missing t l, missing_lacks t)

  -- The first n targets, one more at a time.
  missing_found : (n : ℕ) → MissingAmong v n → found_after v n ≡ true
  unfolding found_after
  missing_found zero m = absurd (omega (arith, m.among))
  missing_found (suc t) m = go (dec_lt m.target t) (missing_found t)
    where
      go : Dec (m.target < t) → (MissingAmong v t → found_after v t ≡ true) → found_after v t || target_lacks v t ≡ true
      go (yes l) before = rw (before (record { target = m.target; among = l; line = m.line }))
      go (no l) before =
          let q : m.target ≡ t = omega (arith, m.among) in
          rw (← q, missing_lacks m.target m.line, or-true)

  found_missing : (n : ℕ) → n ≤ v.segments → found_after v n ≡ true → MissingAmong v n
  unfolding found_after
  found_missing zero l h = absurd (true≢false (sym h))
  found_missing (suc t) l h = go (found_after v t) refl (found_missing t (omega arith))
    where
      go : (found : Bool) → found_after v t ≡ found → (found_after v t ≡ true → MissingAmong v t) → MissingAmong v (suc t)
      go true e before =
          let m = before e in
          record { target = m.target; among = omega (arith, m.among); line = m.line }
      go false e before =
          record { target = t; among = omega arith; line = lacks_missing t (omega arith) (rw e at h) }

  -- 02's sentence, with n = t + 1 for the target t.
  pub found_exact : (n : ℕ) → n ≤ v.segments → found_after v n ≡ true ↔ MissingAmong v n
  found_exact n l = (found_missing n l, missing_found n)

  -- Once found, found after every later target.
  pub found_stays : (n m : ℕ) → n ≤ m → found_after v n ≡ true → found_after v m ≡ true
  unfolding found_after
  found_stays n zero l h = let q : n ≡ 0 = omega arith in rw q at h
  found_stays n (suc m) l h = go (dec_lt m n) (λ k. found_stays n m k h)
    where
      go : Dec (m < n) → (n ≤ m → found_after v m ≡ true) → found_after v m || target_lacks v m ≡ true
      go (yes k) before = let q : n ≡ suc m = omega arith in rw q at h
      go (no k) before = rw (before (omega arith))

  -- The step of a loop over the targets.
  pub found_next : (t : ℕ) (found lacks : Bool) → found ≡ found_after v t → lacks ≡ target_lacks v t →
      found || lacks ≡ found_after v (t + 1)
  unfolding found_after
  found_next t found lacks f l = rw (add-one, f, l)

  found_some : (n : ℕ) → found_after v n ≡ some_below n (target_lacks v)
  unfolding found_after some_below
  found_some zero = refl
  found_some (suc n) = rw (found_some n)

  -- "No answer changes": after all targets it is rule 8's answer, whose words go by partition first.
  pub found_all : found_after v v.segments ≡ flow_missing v
  unfolding flow_missing
  found_all =
      found_some v.segments ∙ sym (some_exchange (λ p t. partition_lacks v t p) v.partitions v.segments)
