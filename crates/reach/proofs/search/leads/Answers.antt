-- The loop's invariant is the search's; it ends since what was looked at grows.
use mathlib.Core.Path.{sym, ◌∙◌}
use native.Mathlib.Nat.{lt_of_lt_of_le}
use native.Mathlib.Omega.{arith}
use lib.Bits.{bit_xor}
use lib.Count.{trailing_le}
use lib.Pow.{pow_mono}
use Rattle.reach.proofs.Laws.Search.{lowest_left, search_first, search_done, search_found, search_more, new_there, new_more}
use Rattle.reach.proofs.search.leads.Goals as goal

pub loop-left-init : goal.loop-left-init
loop-left-init c = search_first _ _ _ c.requires.4

pub overflow_cast-found-in-loop-left : goal.overflow_cast-found-in-loop-left
overflow_cast-found-in-loop-left c = omega (arith, lt_of_lt_of_le c.loop-left.invariant.inside (pow_mono {j = 32} c.requires.2))

pub returns-then-left-eq0 : goal.returns-then-left-eq0
returns-then-left-eq0 c =
    let h = c in
    search_done _ _ _ _ _ h.loop-left.invariant c.if-left-eq0.true _ (sym h.has_bit.ensures ∙ c.loop-left-test.true)

pub with_low_bit-looked-requires : goal.with_low_bit-looked-requires
with_low_bit-looked-requires c =
    let l = c in
    omega (arith, new_there _ _ _ _ _ l.loop-left.invariant _ (lowest_left _ _ _ _ _ l.loop-left.invariant 32 l.requires.2 l.if-left-eq0.false), l.requires.2)

pub overflow_cast-found-in-loop-left-2 : goal.overflow_cast-found-in-loop-left-2
overflow_cast-found-in-loop-left-2 c =
    let l = c.loop-left in
    omega (arith, trailing_le 32 (bit_xor l.found l.looked))

pub offset_bounds-sources-k : goal.offset_bounds-sources-k
offset_bounds-sources-k c =
    let l = c.loop-left in
    omega (arith, trailing_le 32 (bit_xor l.found l.looked))

pub bounds-sources-k : goal.bounds-sources-k
bounds-sources-k c =
    let e = c in
    let l = e in
    omega (arith, new_there _ _ _ _ _ l.loop-left.invariant _ (lowest_left _ _ _ _ _ l.loop-left.invariant 32 l.requires.2 l.if-left-eq0.false), l.requires.3)

pub loop-left-smaller : goal.loop-left-smaller
loop-left-smaller c =
    let e = c in
    let l = e in
    let more = new_more _ _ _ _ _ l.loop-left.invariant _ (lowest_left _ _ _ _ _ l.loop-left.invariant 32 l.requires.2 l.if-left-eq0.false) in
    rw c.with_low_bit-looked.ensures
    (omega (arith, more, lt_of_lt_of_le l.loop-left.invariant.few (pow_mono {j = 32} l.requires.2)))

pub loop-left-preserved : goal.loop-left-preserved
loop-left-preserved c =
    let e = c in
    let l = e in
    rw c.with_low_bit-looked.ensures
    (search_more _ _ _ _ _ l.loop-left.invariant _ (lowest_left _ _ _ _ _ l.loop-left.invariant 32 l.requires.2 l.if-left-eq0.false) l.requires.4)

pub returns : goal.returns
returns c =
    let h = c in
    search_found _ _ _ _ _ h.loop-left.invariant _ (sym h.has_bit.ensures ∙ c.loop-left-test.false)
