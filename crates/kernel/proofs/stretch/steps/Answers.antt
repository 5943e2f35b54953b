-- Each turn is one tick more of the partition, at the next count and with the counter that the last one left. Each is plain, and the first has an
-- instruction at its counter, so that one at least is done.
use Rattle.std.proofs.Common.{ℕ, ◌+◌, ◌<◌, ◌≤◌, ◌⊎◌, sym, ◌∙◌, inl, inr, ⊎_elim, arith, rules}
use Rattle.savearea.proofs.Laws.Next.{hands_counter}
use Rattle.kernel.proofs.Laws.Ticks.{none_yet, one_more}
use Rattle.kernel.proofs.stretch.steps.Goals as goal

fewer : (left n room pc : ℕ) → room < pc + 4 → (left < n) ⊎ (pc + 4 ≤ room) → left < n
fewer left n room pc over = ⊎_elim (λ h. h) (λ h. absurd (omega arith))

pub loop-left-init : goal.loop-left-init
loop-left-init c =
    let p = c.requires in
    record {
      whole = p.whole;
      done = λ count h e. none_yet _ _ _ _ _ _ _;
      counter_is = p.counter_in_code.0;
      plain = p.plain;
      some_done = inr p.counter_in_code.1;
      most = omega arith;
      counter_fits = search (rules, c.ranges);
    }

pub returns-then-last-pc-clause-fewer : goal.returns-then-last-pc-clause-fewer
returns-then-last-pc-clause-fewer c = fewer _ _ _ _ (omega (arith, c.if-last-pc.true, c.requires.counter_in_code.1)) c.loop-left.invariant.some_done

pub returns-then-last-pc-clause-ticked : goal.returns-then-last-pc-clause-ticked
returns-then-last-pc-clause-ticked c = λ count h e. (c.loop-left.invariant.done count h e).memory

pub returns-then-not-goes_on-clause-ticked : goal.returns-then-not-goes_on-clause-ticked
returns-then-not-goes_on-clause-ticked c =
    let v = c.loop-left.invariant in
    let more = one_more _ _ _ _ _ _ _ _ _ _ _ c.loop-left-test.true v.most c.requires.some_few.1 (search rules) (omega arith) v.done c.step-next.ensures.ticked in
    λ count h e. (more count h e).memory

pub loop-left-preserved : goal.loop-left-preserved
loop-left-preserved c =
    let v = c.loop-left.invariant in
    record {
      whole = omega (arith, c.step-next.auto.memory, v.whole);
      done = one_more _ _ _ _ _ _ _ _ _ _ _ c.loop-left-test.true v.most c.requires.some_few.1 (search rules) (omega arith) v.done c.step-next.ensures.ticked;
      counter_is = c.counter-pc.ensures ∙ hands_counter _ _ _ c.step-next.ensures.hands;
      plain = sym (c.goes_on.ensures _ v.plain c.step-next.ensures.hands) ∙ c.if-not-goes_on.false;
      some_done = inl (omega (arith, c.loop-left-test.true, v.most));
      most = omega (arith, v.most);
      counter_fits = omega arith;
    }

pub returns-clause-ticked : goal.returns-clause-ticked
returns-clause-ticked c = λ count h e. (c.loop-left.invariant.done count h e).memory
