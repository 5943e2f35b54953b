-- One `and` a target decides it: a bit that is asked for and not allowed is a line that is missing, and each missing line is one.
use Prim.Native.Nat.{ℕ, ◌^◌, ◌<◌}
use mathlib.Core.Path.{◌≡◌, refl, sym, ◌∙◌}
use mathlib.Core.Bool.{Bool, true, false, ◌&&◌, ◌||◌, not, and-true, and-false}
use mathlib.Core.List.{List, []}
use lib.Bits.{bit_and, bit_or}
use lib.Dec.{eqb}
use lib.ListN.{get_or}
use Rattle.bits.specs.Masks.{has}
use Rattle.bits.proofs.Laws.Masks.{has-with, mask_under}
use Rattle.bits.proofs.Laws.Sets.{has_below}
use Rattle.policy.specs.Below.{some_below}
use Rattle.policy.specs.View.{View}
use Rattle.policy.specs.Access.{readable, writable}
use Rattle.policy.specs.Whole.{flow_lacks}
use Rattle.policy.specs.ByTarget.{target_lacks}
use Rattle.policy.proofs.Laws.Below.{none_of, some_same}
use Rattle.policy.proofs.Laws.Exchange.{some_exchange}
use Rattle.wholerules.specs.Masks.{AreReached, asked_into, reach}
use Rattle.wholerules.specs.Parts.{parts_of}
use Rattle.wholerules.proofs.Laws.Asked.{asked_under, has_asked}
use Rattle.wholerules.proofs.Laws.Strays.{mask_strays}

some_and : (n : ℕ) (f : ℕ → Bool) (b : Bool) → some_below n f && b ≡ some_below n (λ i. f i && b)
some_and n f true = and-true (some_below n f) ∙ some_same f (λ i. f i && true) n (λ i l. sym (and-true (f i)))
some_and n f false = and-false (some_below n f) ∙ sym (none_of (λ i. f i && false) n (λ i l. and-false (f i)))

pub lacks : (asked own flows : Bool) → asked && not (flows || own) ≡ asked && not own && not flows
lacks false own flows = refl
lacks true true true = refl
lacks true true false = refl
lacks true false true = refl
lacks true false false = refl

module _
    (segments partitions : ℕ)
    (save reads writes sources reached written : List ℕ)
    (r : AreReached save reads segments partitions reached)
    (w : AreReached save writes segments partitions written)
    (t : ℕ)
    (there : t < segments)
  where
    abbrev view : View
    view = parts_of segments partitions 0 [] save reads writes sources

    abbrev asked : ℕ
    asked = asked_into reached written t partitions

    abbrev allowed : ℕ
    allowed = bit_or (get_or sources t 0) (2 ^ t)

    asks : ℕ → ℕ → Bool
    asks s p = writable view p t && readable view p s

    asked_at : (s : ℕ) → s < segments → has asked s ≡ some_below partitions (asks s)
    unfolding asks
    asked_at s l =
        has_asked reached written t partitions s
        ∙ some_same (λ p. has (get_or written p 0) t && has (get_or reached p 0) s) (asks s) partitions
        (λ p m. rw (r p m, w p m, has_below (reach save writes p) segments t there, has_below (reach save reads p) segments s l))

    -- A source that is asked for and not allowed is one that some partition lacks.
    lacking : (s : ℕ) → s < segments → has asked s && not (has allowed s) ≡ some_below partitions (λ p. flow_lacks view p t s)
    unfolding asks
    lacking s l =
        rw (asked_at s l, has-with (get_or sources t 0) t s)
        (some_and partitions (asks s) (not (view.flow s t || eqb s t))
        ∙ some_same (λ p. asks s p && not (view.flow s t || eqb s t)) (λ p. flow_lacks view p t s) partitions
        (λ p m. lacks (writable view p t && readable view p s) (eqb s t) (view.flow s t)))

    pub target_told : not (eqb (bit_and asked allowed) asked) ≡ target_lacks view t
    target_told =
        mask_strays segments asked allowed
        (asked_under reached written t segments partitions (λ p m. rw (r p m) (mask_under (reach save reads p) segments)))
        ∙ some_same (λ s. has asked s && not (has allowed s)) (λ s. some_below partitions (λ p. flow_lacks view p t s)) segments lacking
        ∙ some_exchange (λ s p. flow_lacks view p t s) segments partitions
