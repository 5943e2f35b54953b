-- Each byte record has a mask record that stands for the same, and each mask record a byte record: the mask of the pairs that the bytes
-- give, and the bytes of the pairs that the masks give.
use Prim.Native.Nat.{ℕ, zero, suc, ◌+◌, ◌<◌, ◌≤◌, ◌/◌, ◌%◌, ◌^◌}
use mathlib.Core.Path.{◌≡◌, refl, sym, ◌∙◌, ap}
use mathlib.Core.Bool.{Bool, true, false, cond, ◌&&◌, and-false}
use mathlib.Core.List.{List, [], ◌∷◌}
use native.Mathlib.Omega.{arith}
use native.Mathlib.Decide.{dec_lt}
use borrow.Author.Tests.{lt-ltb, le-ltb}
use lib.Dec.{eqb, ltb}
use lib.ListN.{length, get_or, get_or-eq_default}
use Rattle.bits.specs.Masks.{has, mask_of, AllUnder}
use Rattle.bits.proofs.Laws.Masks.{has_past, has_none, has_mask, mask_under}
use Rattle.policy.specs.Modes.{gives_read, gives_write, mode_in}
use Rattle.policy.specs.Tables.{Tables, view_of}
use Rattle.alike.specs.Bytes.{Bytes, pair_at, view_of_bytes, AreBytes, AreMasks, StandsFor}

-- The list of what the numbers below n are worth.
entries : ℕ → (ℕ → ℕ) → List ℕ
entries zero f = []
entries (suc n) f = f 0 ∷ entries n (λ k. f (suc k))

entries_long : (n : ℕ) (f : ℕ → ℕ) → length (entries n f) ≡ n
unfolding entries
entries_long zero f = refl
entries_long (suc n) f = ap suc (entries_long n (λ k. f (suc k)))

entries_at : (n : ℕ) (f : ℕ → ℕ) (k : ℕ) → k < n → get_or (entries n f) k 0 ≡ f k
unfolding entries
entries_at zero f k l = absurd (omega arith)
entries_at (suc n) f zero l = refl
entries_at (suc n) f (suc k) l = entries_at n (λ k. f (suc k)) k (omega arith)

past : (l : List ℕ) (n k : ℕ) → length l ≡ n → n ≤ k → get_or l k 0 ≡ 0
past l n k e m = get_or-eq_default l 0 {n = k} (omega arith)

masks_under : (n : ℕ) (f : ℕ → ℕ → Bool) → AllUnder 32 (entries n (λ k. mask_of 32 (f k)))
masks_under n f k = go (dec_lt k n)
  where
    go : Dec (k < n) → get_or (entries n (λ k. mask_of 32 (f k))) k 0 < 2 ^ 32
    go (yes l) = rw (entries_at n (λ k. mask_of 32 (f k)) k l) (mask_under (f k) 32)
    go (no l) = rw (past (entries n (λ k. mask_of 32 (f k))) n k (entries_long n _) (omega arith)) (omega arith)

-- A bit of such a list.
entry_bit : (n : ℕ) (f : ℕ → ℕ → Bool) → ((k s : ℕ) → n ≤ k → f k s ≡ false) → ((k s : ℕ) → 32 ≤ s → f k s ≡ false) →
    (k s : ℕ) → f k s ≡ has (get_or (entries n (λ k. mask_of 32 (f k))) k 0) s
entry_bit n f none high k s = go (dec_lt k n) (dec_lt s 32)
  where
    go : Dec (k < n) → Dec (s < 32) → f k s ≡ has (get_or (entries n (λ k. mask_of 32 (f k))) k 0) s
    go (yes l) (yes m) = rw (entries_at n (λ k. mask_of 32 (f k)) k l) (sym (has_mask (f k) 32 s ∙ rw (lt-ltb s 32 m)))
    go (yes l) (no m) = high k s (omega arith) ∙ sym (has_past 32 (get_or (entries n (λ k. mask_of 32 (f k))) k 0) s (masks_under n f k) (omega arith))
    go (no l) m = none k s (omega arith) ∙ sym (rw (past (entries n (λ k. mask_of 32 (f k))) n k (entries_long n _) (omega arith)) (has_none s))

pub masks_of : Bytes → Tables
masks_of b =
    record {
      segments = b.segments;
      partitions = b.partitions;
      slots = b.slots;
      rights =
          record {
            reads = entries 8 (λ p. mask_of 32 (λ s. (view_of_bytes b).reads p s));
            writes = entries 8 (λ p. mask_of 32 (λ s. (view_of_bytes b).writes p s));
          };
      flows = record { sources = entries 32 (λ u. mask_of 32 (λ s. (view_of_bytes b).flow s u)) };
      unused = 0;
    }

pub masks_form : (b : Bytes) → AreMasks (masks_of b)
unfolding masks_of
masks_form b =
    record {
      reads_long = entries_long 8 _;
      writes_long = entries_long 8 _;
      sources_long = entries_long 32 _;
      reads_under = masks_under 8 (λ p s. (view_of_bytes b).reads p s);
      writes_under = masks_under 8 (λ p s. (view_of_bytes b).writes p s);
      sources_under = masks_under 32 (λ u s. (view_of_bytes b).flow s u);
    }

module _ (b : Bytes) (h : AreBytes b) where
  -- No byte stands past the tables' ends, nor for a segment from 32 on.
  byte_none : (gives : ℕ → Bool) → gives 0 ≡ false → (l : List ℕ) (n : ℕ) → length l ≡ n → (p s : ℕ) → n ≤ pair_at p s →
      ltb s 32 && gives (get_or l (pair_at p s) 0) ≡ false
  byte_none gives z l n e p s m = rw (past l n (pair_at p s) e m, z, and-false)

  byte_high : (s : ℕ) (x : Bool) → 32 ≤ s → ltb s 32 && x ≡ false
  byte_high s x l = rw (le-ltb s 32 l)

  pub masks_stand : StandsFor b (masks_of b)
  unfolding masks_of
  masks_stand =
      record {
        segments = refl;
        partitions = refl;
        slots = refl;
        reads =
            entry_bit 8 (λ p s. (view_of_bytes b).reads p s)
            (λ p s l. byte_none gives_read refl b.rights 256 h.rights_long p s (omega arith)) (λ p s l. byte_high s _ l);
        writes =
            entry_bit 8 (λ p s. (view_of_bytes b).writes p s)
            (λ p s l. byte_none gives_write refl b.rights 256 h.rights_long p s (omega arith)) (λ p s l. byte_high s _ l);
        flow = λ s u.
            entry_bit 32 (λ u s. (view_of_bytes b).flow s u) (λ u s l. byte_high u _ l)
            (λ u s l. byte_none (λ m. eqb m 1) refl b.flows 1024 h.flows_long s u (omega arith)) u s;
        unused = refl;
      }

pub bytes_of : Tables → Bytes
bytes_of t =
    record {
      segments = t.segments;
      partitions = t.partitions;
      slots = t.slots;
      rights = entries 256 (λ k. mode_in (view_of t) (k / 32) (k % 32));
      flows = entries 1024 (λ k. cond ((view_of t).flow (k / 32) (k % 32)) 1 0);
    }

mode_reads : (r w : Bool) → gives_read (cond r 1 0 + cond w 2 0) ≡ r
mode_reads true true = refl
mode_reads true false = refl
mode_reads false true = refl
mode_reads false false = refl

mode_writes : (r w : Bool) → gives_write (cond r 1 0 + cond w 2 0) ≡ w
mode_writes true true = refl
mode_writes true false = refl
mode_writes false true = refl
mode_writes false false = refl

mode_low : (r w : Bool) → cond r 1 0 + cond w 2 0 ≤ 3
mode_low true true = omega arith
mode_low true false = omega arith
mode_low false true = omega arith
mode_low false false = omega arith

one_told : (x : Bool) → eqb (cond x 1 0) 1 ≡ x
one_told true = refl
one_told false = refl

one_low : (x : Bool) → cond x 1 0 ≤ 1
one_low true = omega arith
one_low false = omega arith

-- What each entry of a list is, up to a bound.
entries_low : (n most : ℕ) (f : ℕ → ℕ) → ((k : ℕ) → f k ≤ most) → (k : ℕ) → get_or (entries n f) k 0 ≤ most
entries_low n most f h k = go (dec_lt k n)
  where
    go : Dec (k < n) → get_or (entries n f) k 0 ≤ most
    go (yes l) = rw (entries_at n f k l) (h k)
    go (no l) = rw (past (entries n f) n k (entries_long n f) (omega arith)) (omega arith)

pub bytes_form : (t : Tables) → AreBytes (bytes_of t)
unfolding bytes_of
bytes_form t =
    record {
      rights_long = entries_long 256 _;
      flows_long = entries_long 1024 _;
      rights_low = entries_low 256 3 _ (λ k. mode_low ((view_of t).reads (k / 32) (k % 32)) ((view_of t).writes (k / 32) (k % 32)));
      flows_low = entries_low 1024 1 _ (λ k. one_low ((view_of t).flow (k / 32) (k % 32)));
    }

-- A byte of such a list tells the pair at its place.
pair_byte : (gives : ℕ → Bool) → gives 0 ≡ false → (n : ℕ) (f : ℕ → ℕ → ℕ) (x : ℕ → ℕ → Bool) →
    ((p s : ℕ) → gives (f p s) ≡ x p s) → ((p s : ℕ) → 32 ≤ s → x p s ≡ false) →
    ((p s : ℕ) → n ≤ pair_at p s → s < 32 → x p s ≡ false) →
    (p s : ℕ) → ltb s 32 && gives (get_or (entries n (λ k. f (k / 32) (k % 32))) (pair_at p s) 0) ≡ x p s
pair_byte gives z n f x told high none p s = go (dec_lt s 32) (dec_lt (pair_at p s) n)
  where
    go : Dec (s < 32) → Dec (pair_at p s < n) →
        ltb s 32 && gives (get_or (entries n (λ k. f (k / 32) (k % 32))) (pair_at p s) 0) ≡ x p s
    go (yes l) (yes m) =
        let row : pair_at p s / 32 ≡ p = omega arith in
        let column : pair_at p s % 32 ≡ s = omega arith in
        rw (lt-ltb s 32 l, entries_at n (λ k. f (k / 32) (k % 32)) (pair_at p s) m, row, column) (told p s)
    go (yes l) (no m) =
        rw (past (entries n (λ k. f (k / 32) (k % 32))) n (pair_at p s) (entries_long n _) (omega arith), z, and-false)
        (sym (none p s (omega arith) l))
    go (no l) m = rw (le-ltb s 32 (omega arith)) (sym (high p s (omega arith)))

module _ (t : Tables) (h : AreMasks t) where
  bit_high : (l : List ℕ) → AllUnder 32 l → (k s : ℕ) → 32 ≤ s → has (get_or l k 0) s ≡ false
  bit_high l u k s m = has_past 32 (get_or l k 0) s (u k) m

  bit_none : (l : List ℕ) (n : ℕ) → length l ≡ n → (k s : ℕ) → n ≤ k → has (get_or l k 0) s ≡ false
  bit_none l n e k s m = rw (past l n k e m) (has_none s)

  pub bytes_stand : t.unused ≡ 0 → StandsFor (bytes_of t) t
  unfolding bytes_of
  bytes_stand unused =
      let v = view_of t in
      record {
        segments = refl;
        partitions = refl;
        slots = refl;
        reads =
            pair_byte gives_read refl 256 (mode_in v) (λ p s. v.reads p s) (λ p s. mode_reads (v.reads p s) (v.writes p s))
            (bit_high t.rights.reads h.reads_under)
            (λ p s l m. bit_none t.rights.reads 8 h.reads_long p s (omega arith));
        writes =
            pair_byte gives_write refl 256 (mode_in v) (λ p s. v.writes p s) (λ p s. mode_writes (v.reads p s) (v.writes p s))
            (bit_high t.rights.writes h.writes_under)
            (λ p s l m. bit_none t.rights.writes 8 h.writes_long p s (omega arith));
        flow =
            pair_byte (λ m. eqb m 1) refl 1024 (λ s u. cond (v.flow s u) 1 0) (λ s u. v.flow s u) (λ s u. one_told (v.flow s u))
            (λ s u l. bit_none t.flows.sources 32 h.sources_long u s l)
            (λ s u l m. bit_high t.flows.sources h.sources_under u s (omega arith));
        unused = unused;
      }
