-- Lines that no rule refuses lead from one draft to another, whatever lines follow: by the clauses of the reading.
use Prim.Native.Nat.{ℕ, zero, suc, ◌+◌, ◌<◌}
use mathlib.Core.Path.{◌≡◌, refl}
use mathlib.Core.Bool.{true, false}
use mathlib.Core.List.{List, [], ◌∷◌, ◌++◌, append_assoc}
use native.Mathlib.Omega.{arith}
use Rattle.text.specs.declared.line.Line.{Line}
use Rattle.policy.specs.Limits.{Limits}
use Rattle.policy.specs.Order.{out_of_order, key_of}
use Rattle.policy.specs.Tables.{Tables, view_of}
use Rattle.policy.specs.Draft.{Draft, added}
use Rattle.policy.specs.Read.{Answer, is_bad, line_refusal, read_lines, read_lines_by}
use Rattle.policy.specs.Sound.{passes}
use Rattle.policy.specs.declared.record.Key.{Key}
use Rattle.std.specs.Prelude.{Ok}
use Rattle.policy.proofs.Laws.Tests.{passes_ranged, passes_clear}
use Rattle.printer.specs.Printer.{lines_below}

abbrev pub draft : Tables → Key → Draft
draft t key = record { tables = t; before = key }

module _ (limits : Limits) where
  -- From a draft with the record p and a key of which K holds, the lines lead to the record q and a key of which L holds: what
  -- is read of the lines after them from there is read of the whole from here.
  abbrev pub Reaches : Tables → (Key → Type 0) → List Line → Tables → (Key → Type 0) → Type 0
  Reaches p K xs q L =
      (ys : List Line) (r : Answer) →
      ((n : ℕ) (key : Key) → L key → read_lines limits n (draft q key) ys ≡ r) →
      (n : ℕ) (key : Key) → K key → read_lines limits n (draft p key) (xs ++ ys) ≡ r

  pub reaches_none : (p q : Tables) (K L : Key → Type 0) → p ≡ q → ((key : Key) → K key → L key) → Reaches p K [] q L
  reaches_none p q K L e f ys r h n key c = rw e (h n key (f key c))

  accepted : (n : ℕ) (p : Tables) (key : Key) (line : Line) → is_bad line ≡ false → out_of_order key (view_of p) line ≡ false →
      passes limits (view_of p) line ≡ true → line_refusal limits n key (view_of p) line ≡ Ok tt
  unfolding line_refusal
  accepted n p key line good ordered a =
      rw (good, ordered, passes_ranged limits (view_of p) line a, passes_clear limits (view_of p) line a)

  pub reaches_one : (p q : Tables) (K L : Key → Type 0) (line : Line) → is_bad line ≡ false →
      ((key : Key) → K key → out_of_order key (view_of p) line ≡ false) → passes limits (view_of p) line ≡ true →
      added p line ≡ q → L (key_of line) → Reaches p K (line ∷ []) q L
  unfolding read_lines_by
  reaches_one p q K L line good ordered a e l ys r h n key c =
      rw (accepted n p key line good (ordered key c) a, e) (h (n + 1) (key_of line) l)

  pub reaches_append : (p q s : Tables) (K L M : Key → Type 0) (xs ys : List Line) →
      Reaches p K xs q L → Reaches q L ys s M → Reaches p K (xs ++ ys) s M
  reaches_append p q s K L M xs ys f g zs r h n key c =
      rw append_assoc (f (ys ++ zs) r (λ m k l. g zs r h m k l) n key c)

  -- Place by place.
  places_reach : (P : ℕ → Tables) (K : ℕ → Key → Type 0) (lines : ℕ → List Line) (n : ℕ) →
      ((i : ℕ) → i < n → Reaches (P i) (K i) (lines i) (P (suc i)) (K (suc i))) →
      Reaches (P 0) (K 0) (lines_below n lines) (P n) (K n)
  unfolding lines_below
  places_reach P K lines zero h = reaches_none (P 0) (P 0) (K 0) (K 0) refl (λ key c. c)
  places_reach P K lines (suc n) h =
      reaches_append (P 0) (P n) (P (suc n)) (K 0) (K n) (K (suc n)) (lines_below n lines) (lines n)
      (places_reach P K lines n (λ i l. h i (omega arith))) (h n (omega arith))

  -- From the record and key before the first place to those after the last.
  pub reaches_below : (p q : Tables) (L M : Key → Type 0) (P : ℕ → Tables) (K : ℕ → Key → Type 0)
      (lines : ℕ → List Line) (n : ℕ) → p ≡ P 0 → ((key : Key) → L key → K 0 key) →
      ((i : ℕ) → i < n → Reaches (P i) (K i) (lines i) (P (suc i)) (K (suc i))) →
      P n ≡ q → ((key : Key) → K n key → M key) → Reaches p L (lines_below n lines) q M
  reaches_below p q L M P K lines n a f steps b g ys r h m key c =
      rw a (places_reach P K lines n steps ys r (λ k key c. rw b (h k key (g key c))) m key (f key c))
