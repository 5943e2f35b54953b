-- What the first tests refuse is refused and left; past them each return rewrites with the tests on the way, which are the definition's in its order, and
-- what they all let pass stands.
use Rattle.std.proofs.Common.{refl, sym, ◌∙◌, le-ltb, lt-ltb}
use Rattle.std.proofs.lemmas.Result.{err_from_is_err_and}
use Rattle.machine.specs.Place.{is_place}
use Rattle.calls.specs.Under.{under_policy}
use Rattle.calls.specs.Run.{state_of, most_ticks_of_run, after_run, run_answer}
use Rattle.calls.proofs.Laws.Outcomes.{start_whole, start_sound, run_refused, run_passed}
use Rattle.kernel.proofs.running.run.Goals as goal

pub returns-in_err-tested : goal.returns-in_err-tested
unfolding after_run run_answer
returns-in_err-tested c =
    let p = err_from_is_err_and c.from_residual.result c.from_residual.ensures.1 in
    rw (p.1, p.2, run_refused (under_policy c.args.policy.now) (state_of c.args.memory.now c.args.place) c.args.n _ (sym c.in_err-tested.ensures))
    (record { answer = refl; memory_after = refl })

pub returns-then-not-is_place : goal.returns-then-not-is_place
unfolding is_place after_run run_answer
returns-then-not-is_place c =
    rw (
      run_passed (under_policy c.args.policy.now) (state_of c.args.memory.now c.args.place) c.args.n (sym c.in_ok-tested.ensures),
      sym c.is_place.ensures ∙ c.if-not-is_place.true,
    )
    (record { answer = refl; memory_after = refl })

pub returns-then-n-gt-MOST_TICKS_OF_RUN : goal.returns-then-n-gt-MOST_TICKS_OF_RUN
unfolding is_place after_run run_answer
returns-then-n-gt-MOST_TICKS_OF_RUN c =
    rw (
      run_passed (under_policy c.args.policy.now) (state_of c.args.memory.now c.args.place) c.args.n (sym c.in_ok-tested.ensures),
      sym c.is_place.ensures ∙ c.if-not-is_place.false,
      lt-ltb most_ticks_of_run _ c.if-n-gt-MOST_TICKS_OF_RUN.true,
    )
    (record { answer = refl; memory_after = refl })

pub run_ticks-requires : goal.run_ticks-requires
unfolding is_place
run_ticks-requires c = record {
  sound = start_sound (under_policy c.args.policy.now) c.args.memory.now (sym c.in_ok-tested.ensures);
  stands = record {
    whole = start_whole (under_policy c.args.policy.now) c.args.memory.now (sym c.in_ok-tested.ensures);
    placed = sym c.is_place.ensures ∙ c.if-not-is_place.false;
  };
}

pub returns : goal.returns
unfolding is_place after_run run_answer
returns c =
    rw (
      run_passed (under_policy c.args.policy.now) (state_of c.args.memory.now c.args.place) c.args.n (sym c.in_ok-tested.ensures),
      sym c.is_place.ensures ∙ c.if-not-is_place.false,
      le-ltb _ _ c.if-n-gt-MOST_TICKS_OF_RUN.false,
      ← c.run_ticks.ensures,
    )
    (record { answer = refl; memory_after = refl })
