-- The number at a place, by its digits and by the byte after them: decimal, or hexadecimal after 0x.
use Prim.Native.Nat.{ℕ, ◌+◌, ◌-◌, ◌*◌, ◌%◌, ◌<◌, ◌≤◌}
use mathlib.Core.Path.{◌≡◌, refl, sym, ◌∙◌, ap}
use mathlib.Core.Bool.{Bool, true, false, ◌&&◌, ◌||◌, true≢false, cond, and-false}
use mathlib.Core.List.{List, [], ◌∷◌}
use native.Mathlib.Nat.{add-zero, mod-eq_of_lt}
use native.Mathlib.Omega.{arith}
use borrow.Author.Tests.{ltb-true, ltb-false, eq-eqb, ne_eqb, eqb-true, eqb-false}
use lib.Dec.{eqb, ltb}
use lib.ListN.{length, drop, get_or, length-drop}
use lib.Seq.{drop-drop, get_or-drop}
use Rattle.std.specs.Prelude.{Option, Some, None}
use Rattle.text.proofs.Forms.{decimal_kept, hex_only, number_hex}
use Rattle.text.proofs.Laws.Bools.{or_left, or_right, and_left, and_right}
use Rattle.text.proofs.Laws.Scan.{digits_on, on_begin}
use Rattle.text.proofs.Laws.Digits.{nine, proper_ten, proper_sixteen, digits_least, digits_within, open_written}
use Rattle.text.proofs.Laws.Digits.{ended_stop, ended_end, none_written, many_written, led_written, fit_written}
use Rattle.text.proofs.Laws.Ends.{field_in, field_nil, field_tab, field_line, field_more}
use Rattle.text.proofs.Laws.Numbers.{Proper}
use Rattle.text.proofs.Laws.Readers.{no_value}
use Rattle.text.proofs.Laws.Stops.{parts, stop_in, field_is, end_is, stop_is}
use Rattle.text.specs.Bytes.{same}
use Rattle.text.specs.Digits.{digits_in, digits_read, of_number, as_number, marks, number_digits}
use Rattle.text.specs.declared.read.Digits.{Digits}
use Rattle.text.specs.declared.read.NumberDigits.{NumberDigits}
use Rattle.text.specs.Cut.{tab, line_end}
use Rattle.text.specs.Number.{Notation, ten, sixteen, zero_to_nine, written, value_from, decimal, begins_hex, hexadecimal, number}
use Rattle.text.specs.Readers.{Found, found, field_read}
use Rattle.text.specs.declared.line.Cursor.{Cursor}

-- Whether a field begins with 0x, by the first two bytes.
module _ (x : ℕ) (l : List ℕ) where
  -- A field has its first byte, or none.
  field-cases : (P : List ℕ → Type 0) → P [] → P (x ∷ field_in l) → P (field_in (x ∷ l))
  field-cases P none some = go (eqb x tab) refl (eqb x line_end) refl
    where
      go : (t : Bool) → eqb x tab ≡ t → (u : Bool) → eqb x line_end ≡ u → P (field_in (x ∷ l))
      go true e u f = rw (field_tab x l (eqb-true x tab e)) none
      go false e true f = rw (field_line x l (eqb-true x line_end f)) none
      go false e false f = rw (field_more x l (eqb-false x tab e) (eqb-false x line_end f)) some

  other_first : eqb x 0x30 ≡ false → begins_hex (field_in (x ∷ l)) ≡ false
  unfolding begins_hex same
  other_first e = field-cases (λ f. begins_hex f ≡ false) refl (rw e)

  other_second : eqb x 0x78 ≡ false → begins_hex (0x30 ∷ field_in (x ∷ l)) ≡ false
  unfolding begins_hex same
  other_second e = field-cases (λ f. begins_hex (0x30 ∷ f) ≡ false) refl (rw e)

begins_is : (l : List ℕ) → begins_hex (field_in l) ≡ eqb (get_or l 0 0) 0x30 && eqb (get_or l 1 0) 0x78
unfolding begins_hex same
begins_is [] = rw field_nil
begins_is (x ∷ l) = go (eqb x 0x30) refl l
  where
    second :
        (m : List ℕ) (y : ℕ) (t : Bool) → eqb y 0x78 ≡ t → begins_hex (0x30 ∷ field_in (y ∷ m)) ≡ t
    second m y true e = rw (field_more y m (λ q. omega (arith, eqb-true y 0x78 e)) (λ q. omega (arith, eqb-true y 0x78 e)), e)
    second m y false e = other_second y m e

    rest : (l : List ℕ) → begins_hex (0x30 ∷ field_in l) ≡ eqb (get_or l 0 0) 0x78
    rest [] = rw field_nil
    rest (y ∷ m) = second m y (eqb y 0x78) refl

    go :
        (t : Bool) → eqb x 0x30 ≡ t → (l : List ℕ) → begins_hex (field_in (x ∷ l)) ≡ t && eqb (get_or l 0 0) 0x78
    go true e l =
        let q : x ≡ 0x30 = eqb-true x 0x30 e in
        ap begins_hex (field_more x l (λ z. omega arith) (λ z. omega arith)) ∙ rw q (rest l)
    go false e l = other_first x l e

-- The first two bytes of a field that begins so.
hex_front : (l : List ℕ) → begins_hex (field_in l) ≡ true → l ≡ 0x30 ∷ 0x78 ∷ drop 2 l
hex_front [] e = absurd (true≢false (sym (sym (begins_is []) ∙ e)))
hex_front (x ∷ []) e =
    absurd (true≢false (sym (and_right (eqb x 0x30) (eqb 0 0x78) (sym (begins_is (x ∷ [])) ∙ e))))
hex_front (x ∷ y ∷ l) e =
    let both = sym (begins_is (x ∷ y ∷ l)) ∙ e in
    rw (eqb-true x 0x30 (and_left (eqb x 0x30) (eqb y 0x78) both), eqb-true y 0x78 (and_right (eqb x 0x30) (eqb y 0x78) both))

-- A decimal digit writes 0 just if it is 0.
zero_value : (x : ℕ) → zero_to_nine x ≡ true → eqb ((0 * 10 + (x - 0x30)) % 4294967296) 0 ≡ eqb x 0x30
zero_value x e =
    let h = nine x e in
    rw (mod-eq_of_lt {n = 0 * 10 + (x - 0x30)} {m = 4294967296} (omega arith)) (go (eqb x 0x30) refl)
  where
    go : (t : Bool) → eqb x 0x30 ≡ t → eqb (0 * 10 + (x - 0x30)) 0 ≡ t
    go true q = eq-eqb (0 * 10 + (x - 0x30)) 0 (omega (arith, eqb-true x 0x30 q))
    go false q = ne_eqb (0 * 10 + (x - 0x30)) 0 (λ z. eqb-false x 0x30 q (omega (arith, nine x e)))

turned : (a b : Bool) → a && true && b ≡ b && a
turned true true = refl
turned true false = refl
turned false true = refl
turned false false = refl

-- The single decimal digit 0 stands in front of x just where the field begins with 0x.
marks_is : (from : ℕ) (l : List ℕ) → marks from (digits_on ten 0 from l) ≡ begins_hex (field_in l)
unfolding digits_on digits_in value_from
marks_is from [] = sym (begins_is [])
marks_is from (x ∷ l) = first (zero_to_nine x) refl l
  where
    second :
        zero_to_nine x ≡ true → (y : ℕ) (m : List ℕ) (t : Bool) → zero_to_nine y ≡ t
        → marks from (digits_on ten 0 from (x ∷ y ∷ m)) ≡ begins_hex (field_in (x ∷ y ∷ m))
    second e y m true f =
        let other : eqb y 0x78 ≡ false = ne_eqb y 0x78 (λ q. omega (arith, nine y f)) in
        rw (e, f, ne_eqb (from + length (x ∷ y ∷ digits_in ten m)) (from + 1) (λ q. omega arith), and-false)
        (sym (begins_is (x ∷ y ∷ m) ∙ rw (other, and-false)))
    second e y m false f =
        rw (e, f, eq-eqb (from + 1) (from + 1) refl, zero_value x e) (turned (eqb y 0x78) (eqb x 0x30))
        ∙ sym (begins_is (x ∷ y ∷ m))

    first :
        (t : Bool) → zero_to_nine x ≡ t → (l : List ℕ)
        → marks from (digits_on ten 0 from (x ∷ l)) ≡ begins_hex (field_in (x ∷ l))
    first false e l =
        rw (e, ne_eqb (from + 0) (from + 1) (λ q. omega (arith, add-zero from)), and-false)
        (sym (other_first x l (ne_eqb x 0x30 (λ q. true≢false (sym (ap zero_to_nine q) ∙ e)))))
    first true e [] = rw e (sym (begins_is (x ∷ []) ∙ and-false (eqb x 0x30)))
    first true e (y ∷ m) = second e y m (zero_to_nine y) refl

-- Digits are a number's just if the byte that ends them stands there.
module _ (form : Notation) (end from : ℕ) (g : Digits) where
  number_ended : {d : NumberDigits} → as_number form end from g ≡ Some d → (eqb g.stop end ≡ true) × (d ≡ of_number form from g)
  number_ended {d} = go (eqb g.stop end) refl
    where
      go :
          (t : Bool) → eqb g.stop end ≡ t → cond t (Some (of_number form from g)) None ≡ Some d
          → (eqb g.stop end ≡ true) × (d ≡ of_number form from g)
      go true q e = (q, cc)
      go false q e = absurd (no_value e)

  number_open : as_number form end from g ≡ None → eqb g.stop end ≡ false
  number_open = go (eqb g.stop end) refl
    where
      go : (t : Bool) → eqb g.stop end ≡ t → cond t (Some (of_number form from g)) None ≡ None → eqb g.stop end ≡ false
      go true q e = absurd (no_value (sym e))
      go false q e = q

-- How the number at a place is read: in which notation, from where on, and what digits stand there.
module _ (end : ℕ) (text : List ℕ) (from : ℕ) (inside : from ≤ length text) where
  abbrev field : List ℕ
  field = field_in (drop from text)

  record ReadAs (m : Option NumberDigits) : Type 0 where
    form : Notation
    proper : Proper form
    start : ℕ
    within : start ≤ length text
    digits : Digits
    read : digits ≡ digits_read form text start
    is : m ≡ as_number form end start digits
    says : number field ≡ written form (field_in (drop start text))
    ends : from + length field ≡ start + length (field_in (drop start text))

  read_decimal : begins_hex field ≡ false → ReadAs (as_number ten end from (digits_read ten text from))
  unfolding decimal
  read_decimal e =
      record {
        form = ten;
        proper = proper_ten;
        start = from;
        within = inside;
        digits = digits_read ten text from;
        read = refl;
        is = refl;
        says = decimal_kept field e;
        ends = refl;
      }

  read_hex : begins_hex field ≡ true → ReadAs (as_number sixteen end (from + 2) (digits_read sixteen text (from + 2)))
  unfolding hexadecimal begins_hex same
  read_hex e =
      let rest = drop (from + 2) text in
      let front : drop from text ≡ 0x30 ∷ 0x78 ∷ rest =
      hex_front (drop from text) e ∙ ap (λ l. 0x30 ∷ 0x78 ∷ l) (drop-drop 2 from text) in
      let shape : field ≡ 0x30 ∷ 0x78 ∷ field_in rest =
      ap field_in front
      ∙ field_more 0x30 (0x78 ∷ rest) (λ q. omega arith) (λ q. omega arith)
      ∙ ap (λ l. 0x30 ∷ l) (field_more 0x78 rest (λ q. omega arith) (λ q. omega arith)) in
      record {
        form = sixteen;
        proper = proper_sixteen;
        start = from + 2;
        within = omega (arith, ap length front, length-drop from text);
        digits = digits_read sixteen text (from + 2);
        read = refl;
        is = refl;
        says = number_hex field (hex_only field e) ∙ ap hexadecimal shape;
        ends = omega (arith, ap length shape);
      }

  read_as : {m : Option NumberDigits} → m ≡ number_digits end text from → ReadAs m
  unfolding number_digits
  read_as {m} q = go (begins_hex field) refl
    where
      marked : marks from (digits_read ten text from) ≡ begins_hex field
      marked = ap (marks from) (on_begin ten text from) ∙ marks_is from (drop from text)

      go : (t : Bool) → begins_hex field ≡ t → ReadAs m
      go true e =
          let hex : m ≡ as_number sixteen end (from + 2) (digits_read sixteen text (from + 2)) = q ∙ rw (marked ∙ e) in
          rw hex (read_hex e)
      go false e =
          let dec : m ≡ as_number ten end from (digits_read ten text from) = q ∙ rw (marked ∙ e) in rw dec (read_decimal e)

-- What the field there says, if this byte ends it.
module _ (end : ℕ) (p : parts end ≡ true) (text : List ℕ) (c : Cursor) (inside : c.at ≤ length text) where
  abbrev stays : Found ℕ
  stays = record { said = None; next = c }

  abbrev ahead : List ℕ
  ahead = field end text c.at inside

  abbrev stop : ℕ
  stop = stop_in (drop c.at text)

  abbrev past : Cursor
  past = record { at = c.at + length ahead + 1; line = c.line }

  read_is :
      field_read number end text c
      ≡ found (cond (eqb stop end) (number ahead) None) past c
  unfolding field_read
  read_is = rw (stop_is text c.at, field_is text c.at, end_is text c.at)

  module _ {m : Option NumberDigits} (q : m ≡ number_digits end text c.at) where
    abbrev how : ReadAs end text c.at inside m
    how = read_as end text c.at inside q

    abbrev there : List ℕ
    there = drop how.start text

    -- The byte that ends the field is the one that ends the digits' own.
    same_stop : stop ≡ stop_in there
    unfolding stop_in
    same_stop =
        get_or-drop c.at text (length ahead) 0
        ∙ ap (λ (k : ℕ). get_or text k 0) how.ends
        ∙ sym (get_or-drop how.start text (length (field_in there)) 0)

    pub not_ended : m ≡ None → stays ≡ field_read number end text c
    not_ended f = sym (read_is ∙ go (eqb stop end) refl)
      where
        go : (t : Bool) → eqb stop end ≡ t → found (cond t (number ahead) None) past c ≡ stays
        go true e =
            let other = eqb-false how.digits.stop end (number_open how.form end how.start how.digits (sym how.is ∙ f)) in
            rw (
            how.says
            ∙ open_written how.form how.proper text how.start how.read
            (λ z. other (sym z ∙ sym same_stop ∙ eqb-true stop end e))
            )
        go false e = refl

    module _ {d : NumberDigits} (f : m ≡ Some d) where
      abbrev ended : (eqb how.digits.stop end ≡ true) × (d ≡ of_number how.form how.start how.digits)
      ended = number_ended how.form end how.start how.digits (sym how.is ∙ f)

      from_is : d.from ≡ how.start
      from_is = ap (λ r. r.from) ended.1

      last_is : d.end ≡ how.digits.end
      last_is = ap (λ r. r.end) ended.1

      most_is : d.most ≡ how.form.most
      most_is = ap (λ r. r.most) ended.1

      pub number_within : (d.from ≤ d.end) × (d.end ≤ length text)
      number_within = (
        omega (arith, from_is, last_is, digits_least how.form how.proper text how.start how.read),
        omega (arith, last_is, digits_within how.form how.proper text how.start how.read how.within),
      )

      at_end : how.digits.stop ≡ end
      at_end = eqb-true how.digits.stop end ended.0

      parted : parts how.digits.stop ≡ true
      parted = ap parts at_end ∙ p

      stop_end : eqb stop end ≡ true
      stop_end =
          eq-eqb stop end
          (same_stop ∙ ended_stop how.form how.proper text how.start how.read parted ∙ at_end)

      said_none : written how.form (field_in there) ≡ None → stays ≡ field_read number end text c
      said_none e = sym (read_is ∙ rw (stop_end, how.says ∙ e))

      module _ {n : ℕ} (count_of : n ≡ d.end - d.from) where
        count : n ≡ how.digits.end - how.start
        count = omega (arith, count_of, last_is, from_is)

        pub no_number : ltb n 1 || ltb d.most n ≡ true → stays ≡ field_read number end text c
        no_number = go (ltb n 1) refl (ltb d.most n) refl
          where
            go :
                (t : Bool) → ltb n 1 ≡ t → (u : Bool) → ltb d.most n ≡ u → t || u ≡ true
                → stays ≡ field_read number end text c
            go true e u g h =
                said_none
                (none_written how.form how.proper text how.start how.read parted count (ltb-true n 1 e))
            go false e true g h =
                said_none
                (many_written how.form how.proper text how.start how.read parted count
                (omega (arith, most_is, ltb-true d.most n g)))
            go false e false g h = absurd (true≢false (sym h))

        module _ (fits : ltb n 1 || ltb d.most n ≡ false) where
          some : 1 ≤ n
          some = ltb-false n 1 (or_left (ltb n 1) (ltb d.most n) fits)

          few : n ≤ how.form.most
          few = omega (arith, most_is, ltb-false d.most n (or_right (ltb n 1) (ltb d.most n) fits))

          pub number_some : d.from < length text
          number_some = omega (arith, some, count_of, number_within)

          abbrev led : Bool
          led = eqb (get_or text d.from 0) 0x30 && ltb 1 n

          led_is : (t : Bool) → led ≡ t → eqb (get_or text how.start 0) 0x30 && ltb 1 n ≡ t
          led_is t e = ap (λ (k : ℕ). eqb (get_or text k 0) 0x30 && ltb 1 n) (sym from_is) ∙ e

          pub zero_led : led ≡ true → stays ≡ field_read number end text c
          zero_led e =
              said_none
              (led_written how.form how.proper text how.start how.read parted count some (led_is true e))

          pub number_there :
              led ≡ false
              → record { said = Some d.value; next = record { at = d.end + 1; line = c.line } }
              ≡ field_read number end text c
          number_there e =
              let is =
              how.says
              ∙ fit_written how.form how.proper text how.start how.read parted count some few
              (led_is false e) in
              let ends = how.ends ∙ ended_end how.form how.proper text how.start how.read parted in
              ap (λ (r : NumberDigits). found (Some r.value) (record { at = r.end + 1; line = c.line }) c) ended.1
              ∙ sym (read_is ∙ rw (stop_end, is, ends))
