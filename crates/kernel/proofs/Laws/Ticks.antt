-- Ticks of one partition in a row: some and then others are as many as both; and one of a partition that is not able has no effect at any count, so
-- memory stays, and with it that the partition is not able.
use Rattle.std.proofs.Common.{◌≡◌, ℕ, zero, suc, ◌+◌, ◌-◌, ◌%◌, ◌<◌, ◌≤◌, true, false, ltb, List, sym, refl, ap, ◌∙◌, mod-eq_of_lt, zero-add, arith}
use Rattle.policy.specs.Limits.{most_ticks}
use Rattle.policy.proofs.Laws.Bools.{or_left, or_right}
use Rattle.machine.specs.declared.Fault.TheVariants.{CounterOver}
use Rattle.machine.specs.Bytes.{part}
use Rattle.machine.specs.Save.{counter}
use Rattle.machine.specs.Faults.{faults}
use Rattle.machine.specs.Local.{takes_interrupt, is_ready, is_able, interrupted}
use Rattle.machine.specs.Place.{counts, count_after}
use Rattle.machine.specs.Tick.{Seat, effect, steps, tick_of}
use Rattle.parts.specs.Parts.{saved_at, with_saved}
use Rattle.tick.specs.Done.{ticked}
use Rattle.machine.proofs.Laws.Places.{count_none, count_one, count_more, count_below}
use Rattle.kernel.specs.Stretch.{ticked_by, ticked_for}

-- The next tick's count is as many short of the last one's as there are ticks left.
short_by : (c n left end at : ℕ) → left ≤ n → n ≤ most_ticks → at < counts → end ≡ count_after n c → (at + left) % counts ≡ end → at ≡ count_after (n - left) c
short_by c n left end at most small fits e f = omega arith

-- A slot has at most 1,000 ticks.
few_left : (left : ℕ) → left ≤ most_ticks → left % 1024 ≡ left
few_left left h = mod-eq_of_lt (omega arith)

next_count : (c n left end at : ℕ) → left ≤ n → n ≤ most_ticks → at < counts → end ≡ count_after n c → (at + left % 1024) % counts ≡ end → at ≡ count_after (n - left) c
next_count c n left end at most small fits e f =
    short_by c n left end at most small fits e (ap (λ k. (at + k) % counts) (sym (few_left left (omega arith))) ∙ f)

-- Able without an interrupt is ready.
pub able_ready : (s : List ℕ) → is_able s ≡ true → takes_interrupt s ≡ false → is_ready s ≡ true
able_ready s able none = rw none at able

module _ (S : Seat) (from start room : ℕ) where
  abbrev After : ℕ → ℕ → List ℕ → List ℕ → Type 0
  After c i m₀ m = m ≡ ticked_for S from start room c i m₀

  abbrev Idle : List ℕ → Type 0
  Idle m = is_able (saved_at m from) ≡ false

  pub one_tick : (c : ℕ) (m m' : List ℕ) → m' ≡ ticked S from start room c m → After c 1 m m'
  unfolding ticked_for
  one_tick c m m' e = e

  -- A tick that takes an interrupt, and one whose counter is over.
  pub interrupt_tick : (c : ℕ) (m : List ℕ) → takes_interrupt (saved_at m from) ≡ true → with_saved m from (interrupted (saved_at m from)) ≡ ticked S from start room c m
  unfolding effect
  interrupt_tick c m t = rw t

  pub over_tick : (c : ℕ) (m : List ℕ) → takes_interrupt (saved_at m from) ≡ false → is_ready (saved_at m from) ≡ true
      → ltb room (counter (saved_at m from) + 4) ≡ true → with_saved m from (faults (saved_at m from) CounterOver) ≡ ticked S from start room c m
  unfolding effect steps
  over_tick c m t r o = rw (t, r, o)

  -- Where the first of n ticks is the same at every count, and is done alone.
  pub first_alone : (n : ℕ) (m m' : List ℕ) → 0 < n → ((c : ℕ) → m' ≡ ticked S from start room c m) → (n - 1 < n) × ((c : ℕ) → After c (n - (n - 1)) m m')
  first_alone n m m' some e =
      let one : n - (n - 1) ≡ 1 = omega arith in
      (omega arith, λ c. rw one (one_tick c m m' (e c)))

  pub none_done : (c n : ℕ) (m : List ℕ) → After c (n - n) m m
  unfolding ticked_for
  none_done c n m =
      let none : n - n ≡ 0 = omega arith in
      rw none

  in_turn : (c i j : ℕ) (m : List ℕ) → c < counts → ticked_for S from start room c (i + j) m ≡ ticked_for S from start room (count_after i c) j (ticked_for S from start room c i m)
  unfolding ticked_for
  in_turn c zero j m h = rw (zero-add, count_none c h)
  in_turn c (suc i) j m h =
      let first = ticked S from start room c m in
      let more : suc i + j ≡ suc (i + j) = omega arith in
      rw more (in_turn (count_after 1 c) i j first (count_below 1 c)) ∙ ap (λ k. ticked_for S from start room k j (ticked_for S from start room (count_after 1 c) i first)) (count_one i c)

  idle_tick : (c : ℕ) (m : List ℕ) → Idle m → ticked S from start room c m ≡ m
  unfolding effect
  idle_tick c m e =
      let s = saved_at m from in
      rw (or_left (takes_interrupt s) (is_ready s) e, or_right (takes_interrupt s) (is_ready s) e)

  idle_for : (c n : ℕ) (m : List ℕ) → Idle m → ticked_for S from start room c n m ≡ m
  unfolding ticked_for
  idle_for c zero m e = refl
  idle_for c (suc n) m e = rw (idle_tick c m e) (idle_for (count_after 1 c) n m e)

  -- With `left` of n ticks to do: memory after those done.
  pub record Going (c n : ℕ) (m₀ : List ℕ) (left : ℕ) (m : List ℕ) : Type 0 where
    pub most : left ≤ n
    pub memory : After c (n - left) m₀ m

  pub none_yet : (c n : ℕ) (m : List ℕ) → Going c n m n m
  none_yet c n m = record { most = omega arith; memory = none_done c n m }

  -- Those from `left` down to r.
  pub some_more : (c n left r at : ℕ) (m₀ m m' : List ℕ) → c < counts → r ≤ left → at ≡ count_after (n - left) c → Going c n m₀ left m
      → After at (left - r) m m' → Going c n m₀ r m'
  some_more c n left r at m₀ m m' h some e g f =
      let both : n - r ≡ (n - left) + (left - r) = omega (arith, g.most) in
      record { most = omega (arith, g.most); memory = rw (both, in_turn c (n - left) (left - r) m₀ h, ← g.memory, ← e) f }

  -- Those that are done at whichever count it is from which as many as are left reach `end`.
  pub went_on : (c n left r end : ℕ) (m₀ m m' : List ℕ) → c < counts → r ≤ left → end ≡ count_after n c → Going c n m₀ left m
      → ((k : ℕ) → k < counts → end ≡ count_after left k → After k (left - r) m m') → Going c n m₀ r m'
  went_on c n left r end m₀ m m' h some last g f =
      let at = count_after (n - left) c in
      let all : (n - left) + left ≡ n = omega (arith, g.most) in
      let e : end ≡ count_after left at = last ∙ sym (count_more c (n - left) left ∙ ap (λ k. count_after k c) all) in
      some_more c n left r at m₀ m m' h some refl g (f at (count_below (n - left) c) e)

  pub all_done : (c n left : ℕ) (m₀ m : List ℕ) → left ≡ 0 → Going c n m₀ left m → After c n m₀ m
  all_done c n left m₀ m none g =
      let all : n - left ≡ n = omega arith in
      rw all at g.memory

  -- The same whatever the count of the first is, if after all n it is `end`.
  abbrev pub Reckoned : (n end : ℕ) → List ℕ → ℕ → List ℕ → Type 0
  Reckoned n end m₀ left m = (count : ℕ) → count < counts → end ≡ count_after n count → Going count n m₀ left m

  pub one_more : (n left end at : ℕ) (m₀ m m' : List ℕ) → 0 < left → left ≤ n → n ≤ most_ticks → at < counts → (at + left % 1024) % counts ≡ end
      → Reckoned n end m₀ left m → m' ≡ ticked S from start room at m → Reckoned n end m₀ (left - 1) m'
  one_more n left end at m₀ m m' some most small fits f g e = λ count h last.
      let one : left - (left - 1) ≡ 1 = omega arith in
      some_more count n left (left - 1) at m₀ m m' h (omega arith) (next_count count n left end at most small fits last f) (g count h last) (rw one (one_tick at m m' e))

  -- Idle with some left: these leave memory as it is.
  pub idle_rest : (c n left : ℕ) (m₀ m : List ℕ) → c < counts → Going c n m₀ left m → Idle m → After c n m₀ m
  idle_rest c n left m₀ m h g d =
      let all : n ≡ (n - left) + left = omega (arith, g.most) in
      rw (all, in_turn c (n - left) left m₀ h, ← g.memory) (sym (idle_for (count_after (n - left) c) left m d))

-- The machine's ticks of a partition are these, at its segments' bases and its code's size.
pub by_numbers : (S : Seat) (code save c n : ℕ) (m : List ℕ) → ticked_for S (S.base save) (S.base code) (S.size code) c n m ≡ ticked_by S code save c n m
unfolding ticked_for ticked_by tick_of
by_numbers S code save c zero m = refl
by_numbers S code save c (suc n) m = by_numbers S code save (count_after 1 c) n (ticked S (S.base save) (S.base code) (S.size code) c m)

pub idle_ticks : (S : Seat) (code save c n : ℕ) (m : List ℕ) → is_able (part m (S.base save) 44) ≡ false → ticked_by S code save c n m ≡ m
idle_ticks S code save c n m e = sym (by_numbers S code save c n m) ∙ idle_for S (S.base save) (S.base code) (S.size code) c n m e
