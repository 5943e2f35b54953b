-- Lists of rules, of any length: what the first answer that applies says of them.
use mathlib.Core.Path.{◌≡◌, refl, sym, ◌∙◌}
use mathlib.Core.Bool.{Bool, true, false, cond, not, ◌&&◌, true≢false}
use mathlib.Core.List.{List, [], ◌∷◌, ◌++◌}
use borrow.Author.Tests.{not-true}
use Rattle.std.specs.Prelude.{Ok, Err}
use Rattle.policy.specs.First.{Rule, first_of}
use Rattle.policy.specs.Refusals.{Verdict, is_accepted}
use Rattle.policy.proofs.Laws.Bools.{and_left, and_right}

pub is_accepted_lem : (verdict : Verdict) → is_accepted verdict ≡ true → verdict ≡ Ok tt
is_accepted_lem (Ok accepted) h = refl
is_accepted_lem (Err refusal) h = absurd (true≢false (sym h))

-- Something holds of each answer of a list.
abbrev pub EachAnswer : (Verdict → Type 0) → List (Rule Verdict) → Type 0
EachAnswer P [] = Unit {0}
EachAnswer P (r ∷ rs) = P r.answer × EachAnswer P rs

-- Each answer is a refusal.
abbrev pub all_refuse : List (Rule Verdict) → Bool
all_refuse [] = true
all_refuse (r ∷ rs) = not (is_accepted r.answer) && all_refuse rs

module _ (r : Rule Verdict) (rs : List (Rule Verdict)) (e : all_refuse (r ∷ rs) ≡ true) where
  first_refuses : is_accepted r.answer ≡ false
  first_refuses = not-true _ (and_left (not (is_accepted r.answer)) (all_refuse rs) e)

  others_refuse : all_refuse rs ≡ true
  others_refuse = and_right (not (is_accepted r.answer)) (all_refuse rs) e

abbrev pub NoneApplies : List (Rule Verdict) → Type 0
NoneApplies [] = Unit {0}
NoneApplies (r ∷ rs) = (r.applies ≡ false) × NoneApplies rs

-- What holds of each answer, and of that of an accepted text, holds of the first.
pub first-has : (P : Verdict → Type 0) (rules : List (Rule Verdict)) → P (Ok tt) → EachAnswer P rules → P (first_of (Ok tt) rules)
first-has P [] a e = a
first-has P (r ∷ rs) a e = go r.applies (first-has P rs a e.1)
  where
    go : (b : Bool) → P (first_of (Ok tt) rs) → P (cond b r.answer (first_of (Ok tt) rs))
    go true rest = e.0
    go false rest = rest

-- An accepted answer says of each rule that it does not apply.
pub none_applies : (rules : List (Rule Verdict)) → all_refuse rules ≡ true → is_accepted (first_of (Ok tt) rules) ≡ true → NoneApplies rules
none_applies [] e h = tt
none_applies (r ∷ rs) e h = go r.applies refl h (none_applies rs (others_refuse r rs e))
  where
    go : (b : Bool) → r.applies ≡ b → is_accepted (cond b r.answer (first_of (Ok tt) rs)) ≡ true →
        (is_accepted (first_of (Ok tt) rs) ≡ true → NoneApplies rs) → NoneApplies (r ∷ rs)
    go true q h rest = absurd (true≢false (sym h ∙ first_refuses r rs e))
    go false q h rest = (q, rest h)

-- A rule at the end of a list is asked of what the others accept, and of nothing else.
pub first-last : (rules : List (Rule Verdict)) (last : Rule Verdict) → all_refuse rules ≡ true →
    first_of (Ok tt) (rules ++ last ∷ [])
    ≡ cond (is_accepted (first_of (Ok tt) rules) && last.applies) last.answer (first_of (Ok tt) rules)
first-last [] last e = refl
first-last (r ∷ rs) last e = go r.applies (first-last rs last (others_refuse r rs e))
  where
    rest : Verdict
    rest = first_of (Ok tt) rs

    longer : Verdict
    longer = first_of (Ok tt) (rs ++ last ∷ [])

    go : (b : Bool) → longer ≡ cond (is_accepted rest && last.applies) last.answer rest →
        cond b r.answer longer
        ≡ cond (is_accepted (cond b r.answer rest) && last.applies) last.answer (cond b r.answer rest)
    go true more = rw (first_refuses r rs e)
    go false more = more
