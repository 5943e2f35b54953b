-- An answer that is no refusal names two segments.
use Prim.Native.Nat.{ℕ, ◌≤◌, ◌<◌}
use mathlib.Core.Path.{◌≡◌, refl, sym}
use mathlib.Core.Bool.{Bool, true, false, not, ◌||◌, cond, true≢false}
use mathlib.Core.List.{List}
use native.Mathlib.Omega.{arith}
use borrow.Author.Tests.{leb-false}
use lib.ListN.{length, length-append}
use Rattle.std.specs.Prelude.{Option, Some, None, Result, Ok, Err}
use Rattle.policy.specs.declared.record.NoAnswer.{NoAnswer}
use Rattle.policy.specs.declared.record.NoAnswer.TheVariants.{Unsound, NoSegment}
use Rattle.policy.specs.Asked.{no_answer_number}
use Rattle.policy.specs.Limits.{Limits}
use Rattle.policy.specs.Refusals.{is_accepted}
use Rattle.policy.specs.Read.{Answer, read_of}
use Rattle.policy.specs.Range.{no_segment}
use Rattle.policy.specs.Sound.{sound_of}
use Rattle.policy.specs.Tables.{Tables, view_of}
use Rattle.policy.proofs.Lawful.{lawful}
use Rattle.policy.proofs.Laws.Bools.{or_both}
use Rattle.calls.specs.Under.{under}
use Rattle.report.specs.Report.{refused_row, refused_with}
use Rattle.report.proofs.Laws.Rows.{refused_length}
use Rattle.reach.specs.Via.{reaches}
use Rattle.reach.specs.Answers.{can_reach_answer}
use Rattle.reaching.specs.declared.words.Words.{Words}
use Rattle.reaching.specs.Question.{words_of, yes_end, reach_line, answer_line, question_line, usage, question_of}
use Rattle.reaching.proofs.Laws.Lines.{field_short}

pub number_small : (why : NoAnswer) → no_answer_number why < 100
number_small Unsound = omega arith
number_small NoSegment = omega arith

-- By whether the record is sound, and whether a number is no segment.
abbrev by_tests : Bool → Bool → Bool → Result Bool NoAnswer
by_tests sound outside reached = cond (not sound) (Err Unsound) (cond outside (Err NoSegment) (Ok reached))

pub asked_inside : (limits : Limits) (t : Tables) (s u : ℕ) {reached : Bool} → Ok reached ≡ can_reach_answer (under limits t) s u →
    (s < limits.segments) × (u < limits.segments)
unfolding can_reach_answer
asked_inside limits t s u {reached} = go (sound_of limits t) refl (no_segment (view_of t) s || no_segment (view_of t) u) refl
  where
    go : (b : Bool) → sound_of limits t ≡ b → (d : Bool) → no_segment (view_of t) s || no_segment (view_of t) u ≡ d →
        Ok reached ≡ by_tests b d (reaches (view_of t) s u) → (s < limits.segments) × (u < limits.segments)
    go false e d f h = absurd (cc)
    go true e true f h = absurd (cc)
    go true e false f h =
        let both = or_both (no_segment (view_of t) s) (no_segment (view_of t) u) f in
        let few = (lawful limits t e).few_segments in
        (omega (arith, few, leb-false _ s both.0), omega (arith, few, leb-false _ u both.1))

-- An answer's line has at most 17 bytes.
pub answer_short : (limits : Limits) (t : Tables) (s u : ℕ) → limits.segments ≤ 32 →
    length (answer_line s u (can_reach_answer (under limits t) s u)) ≤ 17
unfolding answer_line reach_line
answer_short limits t s u few = go (can_reach_answer (under limits t) s u) refl
  where
    end : (y : Bool) → length (yes_end y) ≤ 5
    end true = omega arith
    end false = omega arith

    go : (a : Result Bool NoAnswer) → a ≡ can_reach_answer (under limits t) s u → length (answer_line s u a) ≤ 17
    go (Ok reached) e =
        let inside = asked_inside limits t s u e in
        simp length-append
        (omega (arith, field_short s (omega (arith, inside.0)), field_short u (omega (arith, inside.1)), end reached))
    go (Err why) e = refused_length (no_answer_number why) 0 (number_small why) (omega arith)

-- What is written, by what the words ask and what reading answers.
module _ (limits : Limits) (text words : List ℕ) {o : Option Words} (e : o ≡ words_of words) where
  pub question_none : o ≡ None → question_of limits text words ≡ usage
  unfolding question_of
  question_none h = rw (← e, h)

  module _ {w : Words} (h : o ≡ Some w) {a : Answer} (f : a ≡ read_of limits text) where
    pub question_refused : is_accepted a.refusal ≡ false → question_of limits text words ≡ refused_row a.refusal
    unfolding question_of question_line
    question_refused r = rw (← e, h, ← f, r)

    pub question_answered : is_accepted a.refusal ≡ true →
        question_of limits text words ≡ answer_line w.from w.to (can_reach_answer (under limits a.tables) w.from w.to)
    unfolding question_of question_line
    question_answered r = rw (← e, h, ← f, r)
