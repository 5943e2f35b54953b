-- Each turn is an interrupt or none, and some ticks more of the partition, the first at the count that the last turn left. Where it is no longer able,
-- those that are left do nothing.
use Rattle.std.proofs.Common.{◌≡◌, ℕ, ◌-◌, ◌<◌, ◌≤◌, List, sym, refl, ◌∙◌, arith, rules}
use Rattle.machine.specs.Tick.{Seat}
use Rattle.machine.specs.Place.{counts, count_after}
use Rattle.kernel.specs.Stretch.{ticked_for}
use Rattle.kernel.proofs.Laws.Ticks.{Going, none_yet, went_on, all_done, idle_rest}
use Rattle.kernel.proofs.stretch.stretch_at.Goals as goal

-- What is done after an interrupt or none, and after the ticks that follow it.
took :
    (S : Seat) (from start room c n left r : ℕ) (m₀ m m' : List ℕ) → c < counts → Going S from start room c n m₀ left m
    → r ≤ left → ((S : Seat) (start room count : ℕ) → m' ≡ ticked_for S from start room count (left - r) m)
    → Going S from start room c n m₀ r m'
took S from start room c n left r m₀ m m' h g few e = went_on S from start room c n left r (count_after n c) m₀ m m' h few refl g (λ k _ _. e S start room k)

turned :
    (S : Seat) (from start room c n left r r' : ℕ) (m₀ m m' m'' : List ℕ) → c < counts → Going S from start room c n m₀ left m
    → r ≤ left → ((S : Seat) (start room count : ℕ) → m' ≡ ticked_for S from start room count (left - r) m)
    → r' < r → ((count : ℕ) → count < counts → count_after n c ≡ count_after r count → m'' ≡ ticked_for S from start room count (r - r') m')
    → Going S from start room c n m₀ r' m''
turned S from start room c n left r r' m₀ m m' m'' h g few e fewer f =
    went_on S from start room c n r r' (count_after n c) m₀ m' m'' h (omega (arith, fewer)) refl (took S from start room c n left r m₀ m m' h g few e) f

pub loop-left-init : goal.loop-left-init
loop-left-init c = record { whole = c.requires.whole; going = none_yet _ _ _ _ _ _ _; able = c.requires.able }

pub returns-then-left-eq0 : goal.returns-then-left-eq0
returns-then-left-eq0 c =
    let t = c.take_interrupt-left.ensures in
    all_done _ _ _ _ _ _ _ _ _ (omega (arith, c.if-left-eq0.true)) (took _ _ _ _ _ _ _ _ _ _ _ (search rules) c.loop-left.invariant.going t.most t.ticked)

pub returns-then-left-eq0-2 : goal.returns-then-left-eq0-2
returns-then-left-eq0-2 c =
    let t = c.take_interrupt-left.ensures in
    let f = c.ready_ticks-left.ensures in
    all_done _ _ _ _ _ _ _ _ _ (omega (arith, c.if-left-eq0-2.true))
    (turned _ _ _ _ _ _ _ _ _ _ _ _ _ (search rules) c.loop-left.invariant.going t.most t.ticked f.fewer f.ticked)

pub returns-then-not-is_able : goal.returns-then-not-is_able
returns-then-not-is_able c =
    let t = c.take_interrupt-left.ensures in
    let f = c.ready_ticks-left.ensures in
    idle_rest _ _ _ _ _ _ _ _ _ (search rules)
    (turned _ _ _ _ _ _ _ _ _ _ _ _ _ (search rules) c.loop-left.invariant.going t.most t.ticked f.fewer f.ticked)
    (sym c.is_able.ensures ∙ c.if-not-is_able.true)

pub loop-left-preserved : goal.loop-left-preserved
loop-left-preserved c =
    let t = c.take_interrupt-left.ensures in
    let f = c.ready_ticks-left.ensures in
    record {
      whole = c.ready_ticks-left.auto.memory ∙ c.take_interrupt-left.auto.memory ∙ c.loop-left.invariant.whole;
      going = turned _ _ _ _ _ _ _ _ _ _ _ _ _ (search rules) c.loop-left.invariant.going t.most t.ticked f.fewer f.ticked;
      able = sym c.is_able.ensures ∙ c.if-not-is_able.false;
    }

pub returns : goal.returns
returns c = all_done _ _ _ _ _ _ _ _ _ (omega (arith, c.loop-left-test.false)) c.loop-left.invariant.going
