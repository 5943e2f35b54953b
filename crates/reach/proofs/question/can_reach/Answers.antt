-- Each return rewrites with the tests on the way, which are the definition's in its order; a sound record's sources are segments.
use Prim.Native.Nat.{ℕ, ◌≤◌, ◌<◌}
use mathlib.Core.Path.{◌≡◌, refl, sym, ◌∙◌}
use mathlib.Core.Bool.{Bool, true, false, ◌||◌}
use lib.Dec.{leb}
use native.Mathlib.Omega.{arith}
use borrow.Author.Tests.{leb-false}
use Rattle.policy.specs.Limits.{single}
use Rattle.policy.specs.Record.{tables_of}
use Rattle.policy.specs.Sound.{sound_of}
use Rattle.policy.specs.Tables.{Tables}
use Rattle.policy.proofs.Laws.Bools.{or_both}
use Rattle.reach.specs.Answers.{can_reach_answer}
use Rattle.reach.proofs.Laws.Answers.{few, wide, among}
use Rattle.reach.proofs.question.can_reach.Goals as goal

pub returns-then-not-passes_test : goal.returns-then-not-passes_test
unfolding can_reach_answer
returns-then-not-passes_test c = rw (sym c.passes_test.ensures ∙ c.if-not-passes_test.true)

pub returns-then-segments-from : goal.returns-then-segments-from
unfolding can_reach_answer
returns-then-segments-from c =
    rw (sym c.passes_test.ensures ∙ c.if-not-passes_test.false, ← c.from-segments.ensures, c.if-segments-from.true)

-- Past both tests the record is sound and the numbers are segments.
segments_are :
    (n from to : ℕ) (asked : Bool) (t : Tables) → asked ≡ sound_of single t → asked ≡ true → leb n from || leb n to ≡ false → n ≡ t.segments.count →
    (from < n) × (to < n) × (n ≤ 32)
segments_are n from to asked t e h out is =
    let both = or_both _ _ out in
    let small = few single t (sym e ∙ h) in
    (leb-false _ _ both.0, leb-false _ _ both.1, rw is small)

pub overflow_cast-from : goal.overflow_cast-from
overflow_cast-from c =
    let s = segments_are c.args.policy.now.segments _ _ _ (tables_of c.args.policy.now) c.passes_test.ensures c.if-not-passes_test.false
    (rw c.from-segments.ensures at c.if-segments-from.false) refl in
    omega (arith, s)

pub overflow_cast-to : goal.overflow_cast-to
overflow_cast-to c =
    let s = segments_are c.args.policy.now.segments _ _ _ (tables_of c.args.policy.now) c.passes_test.ensures c.if-not-passes_test.false
    (rw c.from-segments.ensures at c.if-segments-from.false) refl in
    omega (arith, s)

pub leads-requires : goal.leads-requires
leads-requires c =
    let t = tables_of c.args.policy.now in
    let sound = sym c.passes_test.ensures ∙ c.if-not-passes_test.false in
    let s = segments_are c.args.policy.now.segments _ _ _ t c.passes_test.ensures c.if-not-passes_test.false (rw c.from-segments.ensures at c.if-segments-from.false) refl in
    (s.0, s.1, s.2, wide single t sound, among single t sound)

pub returns : goal.returns
unfolding can_reach_answer
returns c =
    rw (sym c.passes_test.ensures ∙ c.if-not-passes_test.false, rw c.from-segments.ensures at c.if-segments-from.false, c.leads.ensures)
