-- A register or a counter that is put leaves lines, handler and state, and so whether the next tick is plain.
use Prim.Native.Nat.{ℕ, ◌+◌, ◌*◌, ◌/◌, ◌%◌, ◌≤◌, ◌<◌}
use native.Mathlib.Omega.{arith}
use mathlib.Core.Path.{◌≡◌, refl, sym, ◌∙◌}
use mathlib.Core.Bool.{Bool, true, false, not, ◌&&◌, cond, true≢false}
use mathlib.Core.List.{List}
use lib.Dec.{eqb}
use lib.ListN.{get_or, set, length, length-set}
use lib.Seq.{get_or-set_same, get_or-set_other}
use Rattle.octets.specs.Numbers.{with_half, with_word}
use Rattle.savearea.specs.declared.step.Next.{Next}
use Rattle.savearea.specs.declared.step.Next.TheVariants.{Steps, Asks}
use Rattle.machine.specs.Save.{counter, register, with_counter}
use Rattle.machine.specs.Local.{advanced, resulted, jumps, takes_interrupt, is_ready, interrupted, entered}
use Rattle.savearea.specs.Next.{is_plain, counter_in, Hands}

-- The fields behind the counter are the same bytes.
abbrev Beyond : List ℕ → List ℕ → Type 0
Beyond s t = (j : ℕ) → 34 ≤ j → get_or t j 0 ≡ get_or s j 0

plain_beyond : (s t : List ℕ) → Beyond s t → is_plain t ≡ is_plain s
unfolding is_plain takes_interrupt is_ready
plain_beyond s t same = rw (same 34 (omega arith), same 36 (omega arith), same 37 (omega arith), same 42 (omega arith))

beyond_set : (s t : List ℕ) (i v : ℕ) → i < 34 → Beyond s t → Beyond s (set t i v)
beyond_set s t i v before same j h = get_or-set_other t i j v 0 (λ e. omega arith) ∙ same j h

beyond_half : (s : List ℕ) (n : ℕ) → Beyond s (with_half s 32 n)
unfolding with_half
beyond_half s n =
    beyond_set s (set s 32 (n % 256)) 33 (n / 256 % 256) (omega arith) (beyond_set s s 32 (n % 256) (omega arith) (λ j h. refl))

beyond_word : (s : List ℕ) (at n : ℕ) → at + 4 ≤ 32 → Beyond s (with_word s at n)
unfolding with_word
beyond_word s at n below =
    let one = beyond_set s s at (n % 256) (omega arith) (λ j h. refl) in
    let two = beyond_set s (set s at (n % 256)) (at + 1) (n / 256 % 256) (omega arith) one in
    let three = beyond_set s (set (set s at (n % 256)) (at + 1) (n / 256 % 256)) (at + 2) (n / 65536 % 256) (omega arith) two in
    beyond_set s (set (set (set s at (n % 256)) (at + 1) (n / 256 % 256)) (at + 2) (n / 65536 % 256)) (at + 3) (n / 16777216 % 256) (omega arith) three

plain_counter : (s : List ℕ) (n : ℕ) → is_plain (with_counter s n) ≡ is_plain s
plain_counter s n = plain_beyond s _ (beyond_half s n)

pub plain_advanced : (s : List ℕ) → is_plain (advanced s) ≡ is_plain s
unfolding advanced
plain_advanced s = plain_counter s _

pub plain_resulted : (s : List ℕ) (a n : ℕ) → a < 8 → is_plain (resulted s a n) ≡ is_plain s
unfolding resulted
plain_resulted s a n few = plain_advanced _ ∙ plain_beyond s _ (beyond_word s (4 * a) n (omega arith))

pub plain_jumps : (s : List ℕ) (a n : ℕ) → is_plain (jumps s a n) ≡ is_plain s
unfolding jumps
plain_jumps s a n = either (eqb (register s a) 0)
  where
    either : (b : Bool) → is_plain (cond b (advanced s) (with_counter s n)) ≡ is_plain s
    either true = plain_advanced s
    either false = plain_counter s n

both : (t r : Bool) → not t && r ≡ true → (t ≡ false) × (r ≡ true)
both true r h = absurd (true≢false (sym h))
both false r h = (refl, h)

-- A plain tick takes no interrupt, and is one of a partition that is ready; and so the other way.
pub plain_both : (s : List ℕ) → is_plain s ≡ true → (takes_interrupt s ≡ false) × (is_ready s ≡ true)
unfolding is_plain
plain_both s = both (takes_interrupt s) (is_ready s)

pub plain_of : (s : List ℕ) → takes_interrupt s ≡ false → is_ready s ≡ true → is_plain s ≡ true
unfolding is_plain
plain_of s t r = rw (t, r)

plain_inside : (t : List ℕ) → 44 ≤ length t → is_plain (set (set t 42 1) 34 0) ≡ true
unfolding is_plain takes_interrupt is_ready
plain_inside t long =
    let long' : 34 < length (set t 42 1) = rw length-set (omega arith) in
    rw (get_or-set_other (set t 42 1) 34 42 0 0 (λ e. omega arith), get_or-set_same t 42 1 0 (omega arith), get_or-set_same (set t 42 1) 34 0 0 long')

length-half : (s : List ℕ) (at n : ℕ) → length (with_half s at n) ≡ length s
unfolding with_half
length-half s at n = simp length-set

length-word : (s : List ℕ) (at n : ℕ) → length (with_word s at n) ≡ length s
unfolding with_word
length-word s at n = simp length-set

plain_entered : (s : List ℕ) (lines line from handler : ℕ) → 44 ≤ length s → is_plain (entered s lines line from handler) ≡ true
unfolding entered
plain_entered s lines line from handler long =
    let t = with_half (with_half (with_word (set s 36 lines) 28 line) 38 from) 32 handler in
    plain_inside t (simp (length-set, length-half, length-word) long)

-- After an interrupt the partition is ready and in its handler.
pub plain_interrupted : (s : List ℕ) → 44 ≤ length s → is_plain (interrupted s) ≡ true
unfolding interrupted
plain_interrupted s long = plain_entered s _ _ _ _ long

-- In both cases the counter is handed on.
pub hands_counter : (next : Next) (s t : List ℕ) → Hands next s t → counter_in next ≡ counter t
hands_counter (Steps pc) s t h = h.0
hands_counter (Asks pc) s t h = h
