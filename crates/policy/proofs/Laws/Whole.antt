-- What an accepted answer says of the rules over the whole, as laws of the view.
use Prim.Native.Nat.{ℕ, ◌<◌}
use mathlib.Core.Path.{◌≡◌, refl}
use mathlib.Core.Bool.{true, not}
use native.Mathlib.Omega.{arith}
use borrow.Author.Tests.{eqb-false, ne_eqb, not-false}
use Rattle.policy.specs.Below.{some_below}
use Rattle.policy.specs.View.{View}
use Rattle.policy.specs.Access.{readable, writable}
use Rattle.policy.specs.Whole.{incomplete, code_unreadable, flow_lacks, flow_missing, flow_strays, stray_flow}
use Rattle.policy.specs.Refusals.{is_accepted}
use Rattle.policy.specs.Read.{whole_rules, whole_refusal}
use Rattle.policy.proofs.Laws.Below.{none_at}
use Rattle.policy.proofs.Laws.First.{NoneApplies, none_applies}
use Rattle.policy.proofs.Laws.Tests.{parts}

module _ (v : View) (h : is_accepted (whole_refusal v) ≡ true) where
  none : NoneApplies (whole_rules v)
  unfolding whole_refusal
  none = none_applies (whole_rules v) refl h

  pub whole_segments : 0 < v.segments
  unfolding incomplete
  whole_segments = let r = none.0 in omega (arith, eqb-false v.segments 0 (search parts))

  pub whole_partitions : 0 < v.partitions
  unfolding incomplete
  whole_partitions = let r = none.0 in omega (arith, eqb-false v.partitions 0 (search parts))

  pub whole_slots : 0 < v.slots
  unfolding incomplete
  whole_slots = let r = none.0 in omega (arith, eqb-false v.slots 0 (search parts))

  pub whole_reads : (p : ℕ) → p < v.partitions → v.reads p (v.code p) ≡ true
  unfolding code_unreadable
  whole_reads p l =
      not-false _ (none_at (λ p. not (v.reads p (v.code p))) v.partitions none.1.0 p l)

  pub whole_flows : (p t s : ℕ) → p < v.partitions → t < v.segments → s < v.segments →
      writable v p t ≡ true → readable v p s ≡ true → (s ≡ t → ⊥) → v.flow s t ≡ true
  unfolding flow_missing
  whole_flows p t s lp lt ls w r d =
      let at_p = none_at (λ p. some_below v.segments (λ t. some_below v.segments (flow_lacks v p t))) v.partitions none.1.1.0 p lp in
      let at-t = none_at (λ t. some_below v.segments (flow_lacks v p t)) v.segments at_p t lt in
      let at-s = none_at (flow_lacks v p t) v.segments at-t s ls in
      not-false _ (rw (w, r, ne_eqb s t d) at at-s)

  pub whole_sources : (p s : ℕ) → p < v.partitions → s < v.segments → v.flow s (v.save p) ≡ true → readable v p s ≡ true
  unfolding stray_flow
  whole_sources p s lp ls f =
      let at_p = none_at (λ p. some_below v.segments (flow_strays v p)) v.partitions none.1.1.1.0 p lp in
      let at-s = none_at (flow_strays v p) v.segments at_p s ls in
      not-false _ (rw f at at-s)
