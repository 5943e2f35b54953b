-- 02, S-6: old and new records from the same text. Line by line the two records stand for the same, so no rule tells them apart; a right
-- line's pair is new in both, since no pair above the last one stands (rule 3).
use Prim.Native.Nat.{ℕ, ◌+◌, ◌<◌, ◌≤◌}
use mathlib.Core.Path.{◌≡◌, refl, sym, ◌∙◌}
use mathlib.Core.Bool.{Bool, true, false, cond, ◌&&◌, ◌||◌, not, and-false, or-false, true≢false}
use mathlib.Core.List.{List, [], ◌∷◌}
use mathlib.Core.Logic.{◌⊎◌, inl, inr, ⊎_elim}
use native.Mathlib.Omega.{arith}
use native.Mathlib.Decide.{ℕ_discrete, dec_lt}
use borrow.Author.Tests.{ltb-false, leb-false, ltb-true, eqb-true, eq-eqb, ne_eqb, not-false}
use lib.Dec.{eqb, ltb}
use lib.ListN.{length, get_or, set, replicate, length-set, length-replicate}
use lib.Seq.{get_or-set_same, get_or-set_other, set_out}
use Rattle.std.specs.Prelude.{Err}
use Rattle.bits.specs.Masks.{has}
use Rattle.bits.proofs.Laws.Masks.{has_none}
use Rattle.text.specs.Lines.{lines_of}
use Rattle.text.specs.Number.{number}
use Rattle.text.specs.declared.line.Line.{Line}
use Rattle.text.specs.declared.line.Line.TheVariants.{Bad, Segment, Partition, Right, Flow, Slot}
use Rattle.text.proofs.Laws.Letters.{Lettered, AllLettered, lines_lettered}
use Rattle.policy.specs.declared.record.Key.{Key}
use Rattle.policy.specs.declared.record.Refusal.TheVariants.{TooLong}
use Rattle.policy.specs.Limits.{single}
use Rattle.policy.specs.View.{View}
use Rattle.policy.specs.Modes.{gives_read, gives_write}
use Rattle.policy.specs.Order.{key_of, ascends, out_of_order}
use Rattle.policy.specs.Range.{out_of_range}
use Rattle.policy.specs.Refusals.{Verdict, is_accepted}
use Rattle.policy.specs.Tables.{Tables, zeros, view_of}
use Rattle.policy.specs.Draft.{Draft, added, begun, no_line}
use Rattle.policy.specs.Read.{is_bad, Answer, answer, too_long, line_refusal, whole_refusal, read_lines, read_lines_by, read_by}
use Rattle.alike.specs.Alike.{SameAnswer, SameText}
use Rattle.alike.specs.Bytes.{Bytes, pair_at, zero_bytes, added_bytes, BytesAnswer, answer_bytes, read_bytes_from, read_bytes, AreBytes, StandsFor}
use Rattle.policy.proofs.Laws.Bits.{bit_where}
use Rattle.policy.proofs.Laws.Bools.{not_so}
use Rattle.policy.proofs.Laws.Tests.{parts}
use Rattle.policy.proofs.Laws.Zeros.{zero_at}
use Rattle.policy.proofs.Kept.{Kept, Passing, kept_none}
use Rattle.policy.proofs.Accepted.{Fine, fine, kept_after}
use Rattle.alike.proofs.Bytes.Stands.{segment_stands, partition_stands, right_stands, flow_stands, slot_stands, views_same}

-- A pair of right lines that is not above the last line: right lines are reached, and if the last one is a right line, the pair is not above
-- its pair.
pub record Behind (key : Key) (p s : ℕ) : Type 0 where
  pub reached : 2 ≤ key.kind
  pub pair : key.kind ≡ 2 → (p < key.first) ⊎ ((p ≡ key.first) × (s ≤ key.second))

abbrev Fresh : View → Key → Type 0
Fresh v key = (p s : ℕ) → v.reads p s || v.writes p s ≡ true → Behind key p s

-- What holds of the two records from the first line to the last.
pub record Both (b : Bytes) (t : Tables) (key : Key) : Type 0 where
  pub stands : StandsFor b t
  pub bytes : AreBytes b
  pub kept : Kept single t key.kind
  pub fresh : Fresh (view_of t) key

-- A byte stored is as low as the others.
stored_low : (l : List ℕ) (i x most : ℕ) → x ≤ most → ((k : ℕ) → get_or l k 0 ≤ most) → (k : ℕ) → get_or (set l i x) k 0 ≤ most
stored_low l i x most lx h k = go (ℕ_discrete k i) (dec_lt i (length l))
  where
    go : Dec (k ≡ i) → Dec (i < length l) → get_or (set l i x) k 0 ≤ most
    go (yes e) (yes m) = rw (e, get_or-set_same l i x 0 m) lx
    go (yes e) (no m) = rw (set_out l i x (omega arith)) (h k)
    go (no n) d = rw (get_or-set_other l i k x 0 n) (h k)

-- Nothing stands in the records of zeros.
no_bit : (n k s : ℕ) → has (get_or (replicate n 0) k 0) s ≡ false
no_bit n k s = rw (zero_at n k) (has_none s)

no_byte : (gives : ℕ → Bool) (n k u : ℕ) → gives 0 ≡ false → ltb u 32 && gives (get_or (replicate n 0) k 0) ≡ false
no_byte gives n k u h = rw (zero_at n k, h, and-false)

low_byte : (n most k : ℕ) → get_or (replicate n 0) k 0 ≤ most
low_byte n most k = rw (zero_at n k) (omega arith)

pub both_none : Both zero_bytes (zeros single) no_line
both_none =
    record {
      stands =
          record {
            segments = refl;
            partitions = refl;
            slots = refl;
            reads = λ p s. no_byte gives_read 256 (pair_at p s) s refl ∙ sym (no_bit 8 p s);
            writes = λ p s. no_byte gives_write 256 (pair_at p s) s refl ∙ sym (no_bit 8 p s);
            flow = λ s u. no_byte (λ m. eqb m 1) 1024 (pair_at s u) u refl ∙ sym (no_bit 32 u s);
            unused = refl;
          };
      bytes =
          record {
            rights_long = length-replicate {A = ℕ} 256 0;
            flows_long = length-replicate {A = ℕ} 1024 0;
            rights_low = low_byte 256 3;
            flows_low = low_byte 1024 1;
          };
      kept = kept_none single;
      fresh = λ p s h. absurd (true≢false (sym h ∙ (kept_none single).later.right (omega arith) p s));
    }

-- One pair is above another.
Above : Key → ℕ → ℕ → Type 0
Above before p s = (before.first < p) ⊎ ((before.first ≡ p) × (before.second < s))

ascends_above : (before : Key) (p s : ℕ) → ascends before p s ≡ true → Above before p s
unfolding Above
ascends_above before p s h = go (ltb before.first p) refl
  where
    go : (x : Bool) → ltb before.first p ≡ x → (before.first < p) ⊎ ((before.first ≡ p) × (before.second < s))
    go true e = inl (ltb-true before.first p e)
    go false e =
        let r : eqb before.first p && ltb before.second s ≡ true = rw e at h in
        inr (eqb-true before.first p (search parts), ltb-true before.second s (search parts))

module _ (b : Bytes) (t : Tables) (before : Key) (h : Both b t before) where
  module _ (p s mode : ℕ) (f : Passing single (view_of t) before (Right p s mode)) where
    not_later : before.kind ≤ 2
    unfolding out_of_order
    not_later = let o = f.ordered in ltb-false 2 before.kind (search parts)

    above : before.kind ≡ 2 → Above before p s
    unfolding out_of_order
    above e =
        let o = f.ordered in
        let r : eqb before.kind 2 && not (ascends before p s) ≡ false = search parts in
        ascends_above before p s (not-false _ (rw (eq-eqb before.kind 2 e) at r))

    new : (view_of t).reads p s || (view_of t).writes p s ≡ false
    unfolding Above
    new = not_so _ (λ e. go (h.fresh p s e))
      where
        go : Behind before p s → ⊥
        go behind =
            let e : before.kind ≡ 2 = omega (arith, behind.reached, not_later) in
            ⊎_elim (λ l. ⊎_elim (λ m. omega arith) (λ m. omega arith) (above e))
            (λ l. ⊎_elim (λ m. omega arith) (λ m. omega arith) (above e)) (behind.pair e)

    partition_there : p < 8
    unfolding out_of_range
    partition_there = let r = f.ranged in omega (arith, h.kept.counts.partitions, leb-false (view_of t).partitions p (search parts))

    segment_there : s < 32
    unfolding out_of_range
    segment_there = let r = f.ranged in omega (arith, h.kept.counts.segments, leb-false (view_of t).segments s (search parts))

    -- A pair that stands after the line stood before, or is the line's own.
    older : (q u : ℕ) → eqb q p && eqb u s ≡ false →
        (view_of (added t (Right p s mode))).reads q u || (view_of (added t (Right p s mode))).writes q u ≡ true →
        (view_of t).reads q u || (view_of t).writes q u ≡ true
    unfolding added
    older q u n e =
        rw (
          bit_where t.rights.reads 8 h.kept.lengths.reads p s partition_there (gives_read mode) q u,
          bit_where t.rights.writes 8 h.kept.lengths.writes p s partition_there (gives_write mode) q u,
          n,
          and-false (gives_read mode),
          and-false (gives_write mode),
          or-false (has (get_or t.rights.reads q 0) u),
          or-false (has (get_or t.rights.writes q 0) u),
        ) at e

    behind_own : (q u : ℕ) → Behind before q u → Behind (key_of (Right p s mode)) q u
    unfolding Above
    behind_own q u k =
        let e : before.kind ≡ 2 = omega (arith, k.reached, not_later) in
        record {
          reached = omega arith;
          pair = λ d.
              ⊎_elim (λ l. ⊎_elim (λ m. inl (omega arith)) (λ m. inl (omega arith)) (above e))
              (λ l. ⊎_elim (λ m. inl (omega arith)) (λ m. inr (omega arith, omega arith)) (above e)) (k.pair e);
        }

    right_fresh : Fresh (view_of (added t (Right p s mode))) (key_of (Right p s mode))
    right_fresh q u e = go (ℕ_discrete q p) (ℕ_discrete u s)
      where
        go : Dec (q ≡ p) → Dec (u ≡ s) → Behind (key_of (Right p s mode)) q u
        go (yes d) (yes c) = record { reached = omega arith; pair = λ k. inr (d, omega arith) }
        go (yes d) (no c) = behind_own q u (h.fresh q u (older q u (rw (ne_eqb u s c, and-false)) e))
        go (no d) c = behind_own q u (h.fresh q u (older q u (rw (ne_eqb q p d)) e))

  module _ (from to : ℕ) (f : Passing single (view_of t) before (Flow from to)) where
    from_there : from < 32
    unfolding out_of_range
    from_there = let r = f.ranged in omega (arith, h.kept.counts.segments, leb-false (view_of t).segments from (search parts))

    to_there : to < 32
    unfolding out_of_range
    to_there = let r = f.ranged in omega (arith, h.kept.counts.segments, leb-false (view_of t).segments to (search parts))

  -- A line that the rules let pass keeps all of it.
  fresh_after : (line : Line) → is_bad line ≡ false → Passing single (view_of t) before line → Fresh (view_of (added t line)) (key_of line)
  unfolding added out_of_order
  fresh_after Bad w f = absurd (true≢false w)
  fresh_after (Segment id base size) w f =
      let o = f.ordered in
      let l : before.kind ≤ 0 = ltb-false 0 before.kind (search parts) in
      λ p s e. absurd (omega (arith, (h.fresh p s e).reached))
  fresh_after (Partition id code save) w f =
      let o = f.ordered in
      let l : before.kind ≤ 1 = ltb-false 1 before.kind (search parts) in
      λ p s e. absurd (omega (arith, (h.fresh p s e).reached))
  fresh_after (Right partition segment mode) w f = right_fresh partition segment mode f
  fresh_after (Flow from to) w f = λ p s e. record { reached = omega arith; pair = λ q. absurd (omega arith) }
  fresh_after (Slot partition ticks) w f = λ p s e. record { reached = omega arith; pair = λ q. absurd (omega arith) }

  stands_after : (line : Line) → is_bad line ≡ false → Passing single (view_of t) before line → StandsFor (added_bytes b line) (added t line)
  stands_after Bad w f = absurd (true≢false w)
  stands_after (Segment id base size) w f = segment_stands b t h.stands id base size
  stands_after (Partition id code save) w f = partition_stands b t h.stands id code save
  stands_after (Right p s mode) w f =
      let lp = partition_there p s mode f in
      let ls = segment_there p s mode f in
      let n = new p s mode f in
      right_stands b t h.stands p s mode (omega (arith, h.bytes.rights_long)) (omega (arith, h.kept.lengths.reads))
      (omega (arith, h.kept.lengths.writes)) ls (search parts) (search parts)
  stands_after (Flow from to) w f =
      let lf = from_there from to f in
      let lt = to_there from to f in
      flow_stands b t h.stands from to (omega (arith, h.bytes.flows_long)) (omega (arith, h.kept.lengths.sources)) lt
  stands_after (Slot partition ticks) w f = slot_stands b t h.stands partition ticks

  bytes_after : (line : Line) → Lettered line → AreBytes (added_bytes b line)
  unfolding added_bytes
  bytes_after Bad few = h.bytes
  bytes_after (Segment id base size) few = record { rights_long = h.bytes.rights_long; flows_long = h.bytes.flows_long; rights_low = h.bytes.rights_low; flows_low = h.bytes.flows_low }
  bytes_after (Partition id code save) few = record { rights_long = h.bytes.rights_long; flows_long = h.bytes.flows_long; rights_low = h.bytes.rights_low; flows_low = h.bytes.flows_low }
  bytes_after (Right p s mode) few =
      record {
        rights_long = length-set b.rights (pair_at p s) mode ∙ h.bytes.rights_long;
        flows_long = h.bytes.flows_long;
        rights_low = stored_low b.rights (pair_at p s) mode 3 few h.bytes.rights_low;
        flows_low = h.bytes.flows_low;
      }
  bytes_after (Flow from to) few =
      record {
        rights_long = h.bytes.rights_long;
        flows_long = length-set b.flows (pair_at from to) 1 ∙ h.bytes.flows_long;
        rights_low = h.bytes.rights_low;
        flows_low = stored_low b.flows (pair_at from to) 1 1 (omega arith) h.bytes.flows_low;
      }
  bytes_after (Slot partition ticks) few = record { rights_long = h.bytes.rights_long; flows_long = h.bytes.flows_long; rights_low = h.bytes.rights_low; flows_low = h.bytes.flows_low }

  pub both_after : (line : Line) → Lettered line → Fine single (view_of t) before line → Both (added_bytes b line) (added t line) (key_of line)
  both_after line few f =
      record {
        stands = stands_after line f.said f.passing;
        bytes = bytes_after line few;
        kept = kept_after single (record { tables = t; before = before }) line f h.kept;
        fresh = fresh_after line f.said f.passing;
      }

answers_same : (b : Bytes) (t : Tables) (key : Key) → Both b t key → (r : Verdict) → SameAnswer (answer_bytes r b) (answer single r t)
answers_same b t key h r = go (is_accepted r)
  where
    go : (x : Bool) → SameAnswer (record { refusal = r; bytes = cond x b zero_bytes }) (record { refusal = r; tables = cond x t (zeros single) })
    go true = record { refusal = refl; stands = h.stands; bytes = h.bytes }
    go false = record { refusal = refl; stands = both_none.stands; bytes = both_none.bytes }

abbrev draft : Tables → Key → Draft
draft t key = record { tables = t; before = key }

lines_same : (lines : List Line) (n : ℕ) (b : Bytes) (t : Tables) (before : Key) → AllLettered lines → Both b t before →
    SameAnswer (read_bytes_from n before b lines) (read_lines single n (draft t before) lines)
unfolding read_bytes_from read_lines_by
lines_same [] n b t before few h = rw (views_same b t h.stands) (answers_same b t before h (whole_refusal (view_of t)))
lines_same (line ∷ lines) n b t before few h =
    rw (views_same b t h.stands)
    (go (is_accepted refusal) refl (λ k. lines_same lines (n + 1) (added_bytes b line) (added t line) (key_of line) few.1 k))
  where
    refusal : Verdict
    refusal = line_refusal single n before (view_of t) line

    old : BytesAnswer
    old = read_bytes_from (n + 1) (key_of line) (added_bytes b line) lines

    rest : Answer
    rest = read_lines single (n + 1) (draft (added t line) (key_of line)) lines

    go : (x : Bool) → is_accepted refusal ≡ x → (Both (added_bytes b line) (added t line) (key_of line) → SameAnswer old rest) →
        SameAnswer (cond x old (answer_bytes refusal zero_bytes)) (cond x rest (answer single refusal (zeros single)))
    go true a more = more (both_after b t before h line few.0 (fine single n before (view_of t) line a))
    go false a more = answers_same zero_bytes (zeros single) no_line both_none refusal

pub same_text : SameText
unfolding read_bytes read_by
same_text text = go (too_long single text)
  where
    go : (x : Bool) →
        SameAnswer (cond x (answer_bytes (Err TooLong) zero_bytes) (read_bytes_from 1 no_line zero_bytes (lines_of text)))
        (cond x (answer single (Err TooLong) (zeros single)) (read_lines single 1 (begun single) (lines_of text)))
    go true = answers_same zero_bytes (zeros single) no_line both_none (Err TooLong)
    go false = lines_same (lines_of text) 1 zero_bytes (zeros single) no_line (lines_lettered number text) both_none
