-- A Pend sets bits of one byte by or, so Pends may be repeated and exchanged; and it changes one save segment alone, in a way that asks nothing of
-- the rest of memory.
use Prim.Native.Nat.{ℕ, ◌^◌, ◌≤◌, ◌<◌}
use native.Mathlib.Omega.{arith}
use native.Mathlib.Decide.{ℕ_discrete, dec_lt}
use mathlib.Core.Path.{◌≡◌, sym, ◌∙◌}
use mathlib.Core.Logic.{◌≢◌, inl, inr, ⊎_elim}
use mathlib.Core.List.{List}
use lib.ListN.{length, get_or, length-set}
use lib.Seq.{set-set, set_comm, set_out, get_or-set_same, get_or-set_other, get_or-take, get_or-drop}
use Rattle.policy.specs.Limits.{Limits}
use Rattle.policy.specs.View.{View}
use Rattle.policy.specs.Lawful.{Lawful}
use Rattle.machine.specs.Bytes.{part}
use Rattle.machine.specs.Layout.{layout}
use Rattle.machine.proofs.Laws.Parts.{part-set, part-set_other}
use Rattle.calls.specs.Pend.{with_line, pended_at}
use Rattle.calls.proofs.Laws.Bits.{or_again, or_swap}

module _ (v : View) where
  pub line_again : (p line : ℕ) (m : List ℕ) → with_line v p line (with_line v p line m) ≡ with_line v p line m
  unfolding with_line
  line_again p line m = go (dec_lt (pended_at v p) (length m))
    where
      go : Dec (pended_at v p < length m) → with_line v p line (with_line v p line m) ≡ with_line v p line m
      go (yes h) = rw (get_or-set_same, set-set, or_again)
      go (no n) = let h : length m ≤ pended_at v p = omega arith in simp set_out

  pub line_swap : (p k q l : ℕ) (m : List ℕ) → with_line v p k (with_line v q l m) ≡ with_line v q l (with_line v p k m)
  unfolding with_line
  line_swap p k q l m = go (ℕ_discrete (pended_at v p) (pended_at v q)) (dec_lt (pended_at v q) (length m))
    where
      go : Dec (pended_at v p ≡ pended_at v q) → Dec (pended_at v q < length m) → with_line v p k (with_line v q l m) ≡ with_line v q l (with_line v p k m)
      go (yes e) (yes h) = rw e (simp (get_or-set_same, set-set) (rw (or_swap (get_or m (pended_at v q) 0) (2 ^ l) (2 ^ k))))
      go (yes e) (no n) = let h : length m ≤ pended_at v q = omega arith in rw e (simp set_out)
      go (no n) d = let o : pended_at v q ≢ pended_at v p = λ e. n (sym e) in simp get_or-set_other (set_comm m (pended_at v q) (pended_at v p) _ _ o)

  pub line_length : (p line : ℕ) (m : List ℕ) → length (with_line v p line m) ≡ length m
  unfolding with_line
  line_length p line m = simp length-set

module _ (limits : Limits) (v : View) (W : Lawful limits v) (p line : ℕ) (hp : p < v.partitions) where
  -- In every other segment nothing changes.
  pub line_other : (s : ℕ) (m : List ℕ) → s < v.segments → v.save p ≢ s → part (with_line v p line m) (v.base s) (v.size s) ≡ part m (v.base s) (v.size s)
  unfolding with_line
  line_other s m hs n =
      part-set_other (v.base s) (v.size s) (pended_at v p) _ m
      (⊎_elim (λ h. inl (omega (arith, W.save_size p hp))) (λ h. inr (omega arith)) (W.disjoint (v.save p) s (W.save_there p hp) hs n))

  -- What a segment has after a Pend comes from what it had.
  pub line_same : (s : ℕ) (m m' : List ℕ) → s < v.segments → part m (v.base s) (v.size s) ≡ part m' (v.base s) (v.size s)
      → part (with_line v p line m) (v.base s) (v.size s) ≡ part (with_line v p line m') (v.base s) (v.size s)
  unfolding with_line
  line_same s m m' hs e = go (ℕ_discrete (v.save p) s)
    where
      byte : (n : List ℕ) → get_or (part n (v.base (v.save p)) (v.size (v.save p))) layout.pended 0 ≡ get_or n (pended_at v p) 0
      byte n = let h : layout.pended < v.size (v.save p) = omega (arith, W.save_size p hp) in rw (get_or-take, get_or-drop)

      own : part m (v.base (v.save p)) (v.size (v.save p)) ≡ part m' (v.base (v.save p)) (v.size (v.save p))
          → part (with_line v p line m) (v.base (v.save p)) (v.size (v.save p)) ≡ part (with_line v p line m') (v.base (v.save p)) (v.size (v.save p))
      own f =
          let h : layout.pended < v.size (v.save p) = omega (arith, W.save_size p hp) in
          rw (← byte m, ← byte m') (simp (part-set, f))

      go : Dec (v.save p ≡ s) → part (with_line v p line m) (v.base s) (v.size s) ≡ part (with_line v p line m') (v.base s) (v.size s)
      go (yes q) = rw (← q) (own (rw q e))
      go (no n) = line_other s m hs n ∙ e ∙ sym (line_other s m' hs n)
