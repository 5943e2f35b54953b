-- What two readings of words, one after the other, come to.
use Prim.Native.Nat.{ℕ, ◌+◌}
use mathlib.Core.Path.{◌≡◌, refl, sym, ap, ◌∙◌}
use mathlib.Core.Bool.{Bool, true, false, cond}
use mathlib.Core.List.{List, [], ◌∷◌, ◌++◌}
use native.Mathlib.Nat.{zero-add}
use native.Mathlib.Omega.{arith}
use borrow.Author.Tests.{eq-eqb, ne_eqb}
use lib.Dec.{eqb}
use lib.ListN.{length, drop, length-append}
use lib.Seq.{drop-append-add}
use Rattle.std.specs.Prelude.{Option, Some, None}
use Rattle.text.specs.declared.line.Cursor.{Cursor}
use Rattle.text.specs.Cut.{tab, line_end}
use Rattle.text.specs.Number.{number}
use Rattle.text.specs.Places.{unparted}
use Rattle.text.specs.Readers.{Found, found}
use Rattle.text.proofs.Laws.Words.{word_read_lem}
use Rattle.reaching.specs.Question.{first_word, next_word, both_words, two_words, words_of}
use Rattle.reaching.specs.declared.words.Words.{Words}

either : (t : Bool) {o : Option Words} → o ≡ None → cond t o None ≡ None
either true e = e
either false e = refl

pub both_none : (o : Option ℕ) → both_words o None ≡ None
both_none (Some s) = refl
both_none None = refl

module _ (words : List ℕ) {a b : Found ℕ} (first : a ≡ first_word words) (second : b ≡ next_word words a.next) where
  words_are : two_words words a b ≡ words_of words
  unfolding words_of
  words_are = ap (two_words words a) second ∙ ap (λ r. two_words words r (next_word words r.next)) first

  pub words_none : (b.next.at ≡ length words → ⊥) → None ≡ words_of words
  words_none n = rw (ne_eqb b.next.at (length words) n) at words_are

  pub words_both : b.next.at ≡ length words → both_words a.said b.said ≡ words_of words
  words_both e = rw (eq-eqb b.next.at (length words) e) at words_are

  -- One of them is no number.
  pub words_missing : both_words a.said b.said ≡ None → None ≡ words_of words
  words_missing e = sym (either (eqb b.next.at (length words)) e) ∙ words_are

module _ (words : List ℕ) {a : Found ℕ} (first : a ≡ first_word words) where
  pub first_missing : a.said ≡ None → None ≡ words_of words
  first_missing e = words_missing words {b = next_word words a.next} first refl (ap (λ o. both_words o (next_word words a.next).said) e)

-- "numbers are read as in a policy text": of two words without tab and line end, as the fields of a line.
module _ (from to : List ℕ) (a : unparted from ≡ true) (b : unparted to ≡ true) where
  abbrev words : List ℕ
  words = from ++ tab ∷ (to ++ line_end ∷ [])

  abbrev start : Cursor
  start = record { at = 0; line = 0 }

  abbrev between : Cursor
  between = record { at = 0 + length from + 1; line = 0 }

  abbrev behind : Cursor
  behind = record { at = 0 + length from + 1 + length to + 1; line = 0 }

  long : length words ≡ 0 + length from + 1 + length to + 1
  long = rw (length-append, length-append) (omega arith)

  first_is : first_word words ≡ found (number from) between start
  first_is = word_read_lem tab refl number words start from (to ++ line_end ∷ []) a refl

  second_is : next_word words between ≡ found (number to) behind between
  second_is =
      word_read_lem line_end refl number words between to [] b
      (ap (λ (n : ℕ). drop (n + 1) words) (zero-add (length from)) ∙ drop-append-add from (tab ∷ (to ++ line_end ∷ [])) 1)

  pub words_told : words_of words ≡ both_words (number from) (number to)
  words_told = go (number from) refl (number to) refl
    where
      go : (n : Option ℕ) → number from ≡ n → (m : Option ℕ) → number to ≡ m → words_of words ≡ both_words n m
      go None e m f =
          let first : record { said = None; next = start } ≡ first_word words = sym (first_is ∙ rw e) in
          sym (first_missing words first refl)
      go (Some s) e None f =
          let first : record { said = Some s; next = between } ≡ first_word words = sym (first_is ∙ rw e) in
          let second : record { said = None; next = between } ≡ next_word words between = sym (second_is ∙ rw f) in
          sym (words_none words first second (λ q. omega (arith, long)))
      go (Some s) e (Some t) f =
          let first : record { said = Some s; next = between } ≡ first_word words = sym (first_is ∙ rw e) in
          let second : record { said = Some t; next = behind } ≡ next_word words between = sym (second_is ∙ rw f) in
          sym (words_both words first second (sym long))
