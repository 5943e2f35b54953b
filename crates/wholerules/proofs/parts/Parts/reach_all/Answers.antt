-- The loop writes each partition's masks at its place; the invariant: those before p are written, all that they have is gathered, and of their save
-- segments it is known which lack a line and whether one has a stray source.
use Prim.Native.Nat.{◌<◌}
use mathlib.Core.Path.{◌≡◌, refl, ◌∙◌}
use native.Mathlib.Omega.{arith}
use borrow.Author.Rules.{rules}
use lib.ListN.{length, length-set}
use Rattle.bits.proofs.Laws.Masks.{has_none, has-or}
use Rattle.policy.specs.Below.{some_below}
use Rattle.policy.specs.Whole.{stray_flow}
use Rattle.policy.proofs.Laws.Below.{some_next}
use Rattle.wholerules.specs.Masks.{joined}
use Rattle.wholerules.proofs.Laws.Asked.{joined_more, joined_next, reached_is}
use Rattle.wholerules.proofs.Laws.Filled.{fill_more}
use Rattle.wholerules.proofs.Laws.Lackers.{own_told}
use Rattle.wholerules.proofs.Laws.Strays.{sources_told}
use Rattle.wholerules.proofs.parts.Parts.reach_all.Goals as goal

pub loop-p-init : goal.loop-p-init
unfolding joined some_below
loop-p-init c =
    record {
      reached_long = search rules;
      written_long = search rules;
      reached = λ p l. absurd (omega arith);
      written = λ p l. absurd (omega arith);
      any_reached = refl;
      given = refl;
      stray = refl;
      lackers = λ t l. has_none t;
    }

pub loop-p-preserved : goal.loop-p-preserved
loop-p-preserved c =
    let l = c in
    let a = l.args.self.now in
    let inv = l.loop-p.invariant in
    let p = l.loop-p.p in
    let there = l.bits_below-there.ensures in
    let own = l.bit_of-own.ensures in
    let from = l.entry_or.ensures in
    let at = reached_is a.segments _ _ _ a.few.0 own there in
    let wide : p < length l.loop-p.reached = omega (arith, a.few.1) in
    let room : p < length l.loop-p.written = omega (arith, a.few.1) in record {
      reached_long = length-set _ _ _ ∙ inv.reached_long;
      written_long = length-set _ _ _ ∙ inv.written_long;
      reached = fill_more _ _ _ _ wide inv.reached (at _ _ _ refl refl);
      written = fill_more _ _ _ _ room inv.written (at _ _ _ refl refl);
      any_reached = joined_more _ _ _ _ wide inv.any_reached;
      given = joined_next _ _ _ _ inv.given refl;
      stray = some_next _ _ _ _ inv.stray (rw l.within.ensures (sources_told _ _ _ _ _ _ _ there (at _ _ _ refl refl) from));
      lackers = λ t k.
          has-or l.loop-p.lackers _ t
          ∙ some_next _ _ _ _ (inv.lackers t k)
          (rw (c.picked-lackers.ensures, c.within-in-loop-p.ensures)
          (own_told a.segments a.partitions a.save.now a.reads.now a.writes.now a.sources.now t k
          p _ _ _ _ _ a.few.0 refl there own (at _ _ _ refl refl) from));
    }

pub returns : goal.returns
unfolding stray_flow
returns c =
    let inv = c.loop-p.invariant in
    let e : c.loop-p.p ≡ c.args.self.now.partitions = omega arith in record {
      are_reached = λ p l. inv.reached p (omega arith);
      are_written = λ p l. inv.written p (omega arith);
      reached_joined = inv.any_reached ∙ rw e;
      given_joined = inv.given ∙ rw e;
      lackers_found = λ t k. inv.lackers t k ∙ rw e;
      stray_found = inv.stray ∙ rw e;
    }
