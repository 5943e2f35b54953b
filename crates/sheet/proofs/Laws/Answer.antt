-- A sound record's slots are of its partitions and its sums of ticks small, and no partition past the last has a slot, so what the loops find is the sheet.
use Prim.Native.Nat.{ℕ, ◌*◌, ◌<◌, ◌≤◌}
use mathlib.Core.Path.{◌≡◌, sym, ap, ◌∙◌}
use mathlib.Core.Bool.{true, false, cond}
use native.Mathlib.Omega.{arith}
use native.Mathlib.Decide.{dec_lt}
use borrow.Author.Tests.{lt-ltb, le-ltb, ne_eqb}
use lib.Dec.{ltb}
use lib.ListN.{length, get_or, get_or-eq_default}
use Rattle.std.specs.Prelude.{Ok}
use Rattle.policy.specs.Below.{list_below}
use Rattle.policy.specs.Limits.{Limits, most_ticks}
use Rattle.policy.specs.View.{View}
use Rattle.policy.specs.Tables.{Tables, view_of}
use Rattle.policy.specs.Sound.{sound_of}
use Rattle.policy.specs.Schedule.{booked, is_booked, has_slot, own_ticks, round_ticks, silence}
use Rattle.policy.proofs.Lawful.{lawful}
use Rattle.policy.proofs.Schedule.{no_slot, less}
use Rattle.policy.proofs.Laws.Sums.{sum_most}
use native.Mathlib.Nat.{mul-le-mul_left}
use Rattle.policy.proofs.Laws.Below.{none_of}
use Rattle.policy.proofs.Laws.Lists.{list_same, list_long, list_at}
use Rattle.calls.specs.Under.{under}
use Rattle.sheet.specs.Answer.{for_each, sheet_for, sheet_answer}

module _ (limits : Limits) (t : Tables) (h : sound_of limits t ≡ true) where
  abbrev v : View
  v = view_of t

  pub owner_few : (k : ℕ) → k < v.slots → booked v k < limits.partitions
  owner_few k l = omega (arith, (lawful limits t h).owner_there k l, (lawful limits t h).few_partitions)

  -- No sum of ticks is above the most of all slots.
  pub round_few : round_ticks v ≤ most_ticks * limits.slots
  round_few =
      let w = lawful limits t h in
      omega (arith, sum_most v.ticks v.slots w.ticks_most, mul-le-mul_left most_ticks w.few_slots)

  pub own_few : (p : ℕ) → own_ticks v p ≤ most_ticks * limits.slots
  own_few p = omega (arith, less v p, round_few)

  past_none : (p : ℕ) → t.partitions.count ≤ p → has_slot v p ≡ false
  past_none p l =
      none_of (is_booked v p) t.slots.count
      (λ k b. ne_eqb (v.owner k) p (λ e. omega (arith, (lawful limits t h).owner_there k b)))

  for_each_lem : (f : ℕ → ℕ) → ((p : ℕ) → has_slot v p ≡ false → f p ≡ 0) → list_below limits.partitions f ≡ for_each limits v f
  for_each_lem f none = list_same f (λ p. cond (ltb p v.partitions) (f p) 0) limits.partitions (λ p l. at p (dec_lt p v.partitions))
    where
      at : (p : ℕ) → Dec (p < v.partitions) → f p ≡ cond (ltb p v.partitions) (f p) 0
      at p (yes b) = rw (lt-ltb p v.partitions b)
      at p (no b) = rw (le-ltb p v.partitions (omega arith)) (none p (past_none p (omega arith)))

  -- What is shown of a partition, there or not.
  shown_at : (f : ℕ → ℕ) → ((p : ℕ) → has_slot v p ≡ false → f p ≡ 0) → (p : ℕ) → get_or (for_each limits v f) p 0 ≡ f p
  shown_at f none p = ap (λ l. get_or l p 0) (sym (for_each_lem f none)) ∙ go (dec_lt p limits.partitions)
    where
      go : Dec (p < limits.partitions) → get_or (list_below limits.partitions f) p 0 ≡ f p
      go (yes b) = list_at f limits.partitions p 0 b
      go (no b) =
          get_or-eq_default (list_below limits.partitions f) 0 {n = p} (rw (list_long f limits.partitions) (omega arith))
          ∙ sym (none p (past_none p (omega (arith, (lawful limits t h).few_partitions))))

  pub own_at : (p : ℕ) → get_or (sheet_for limits v).ticks p 0 ≡ own_ticks v p
  own_at p = shown_at (own_ticks v) (λ p e. (no_slot v p e).0) p

  pub silence_at : (p : ℕ) → get_or (sheet_for limits v).silence p 0 ≡ silence v p
  silence_at p = shown_at (silence v) (λ p e. (no_slot v p e).1) p

  pub sheet_ok : sheet_answer (under limits t) ≡ Ok (sheet_for limits v)
  unfolding sheet_answer
  sheet_ok = rw h

  -- The sheet has a number for each partition of the head.
  pub ticks_long : length (sheet_for limits v).ticks ≡ limits.partitions
  ticks_long = list_long _ limits.partitions

  pub silence_long : length (sheet_for limits v).silence ≡ limits.partitions
  silence_long = list_long _ limits.partitions

  pub own_shown : list_below limits.partitions (own_ticks v) ≡ for_each limits v (own_ticks v)
  own_shown = for_each_lem (own_ticks v) (λ p e. (no_slot v p e).0)

  pub silence_shown : list_below limits.partitions (silence v) ≡ for_each limits v (silence v)
  silence_shown = for_each_lem (silence v) (λ p e. (no_slot v p e).1)
