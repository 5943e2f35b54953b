-- Two memories that are equal on R(p), with equal counts, give p the same effect (law A), and the effect stays in W(p) (law B); with rule 8 that separates one tick.
-- No case on the instruction stands here.
use Prim.Native.Nat.{ℕ, ◌+◌, ◌≤◌, ◌<◌}
use native.Mathlib.Omega.{arith}
use native.Mathlib.Nat.{add-zero}
use native.Mathlib.Decide.{ℕ_discrete}
use mathlib.Core.Path.{◌≡◌, refl, sym, ◌∙◌, ap, ap₂, subst, fun_ext}
use mathlib.Core.Logic.{◌⊎◌, inl, inr, ⊎_elim}
use mathlib.Core.Bool.{Bool, true, false, false≢true, ◌||◌, cond}
use mathlib.Core.List.{List, [], ◌∷◌}
use lib.Dec.{eqb, eqb_refl, T}
use lib.ListN.{length, get_or, length-take, length-drop}
use lib.Seq.{sets, length-sets}
use Rattle.policy.specs.Limits.{Limits}
use Rattle.policy.specs.View.{View}
use Rattle.policy.specs.Access.{readable, writable}
use Rattle.policy.specs.Lawful.{Lawful}
use Rattle.machine.specs.Bytes.{part}
use Rattle.machine.specs.Tick.{Sees, Effect, none, saves, stores, may_load, looks, sees, effect, applied, tick_of}
use Rattle.machine.specs.Machine.{State, Segs, Dia, seat, select, current, next, Stands}
use Rattle.machine.proofs.Laws.Parts.{part-sets, part-sets_other, get_d_sets_other, with-sets}
use Rattle.machine.proofs.Laws.Tests.{reaches_there, reaches-given}
use Rattle.machine.proofs.Laws.Places.{slot_there, moved_stays}
use Rattle.machine.proofs.Touch.{Touches, effect_touches}

-- Bytes that a tick writes: a segment, an offset in it, the bytes from there on.
pub record Patch : Type 0 where
  pub seg : ℕ
  pub at : ℕ
  pub bytes : List ℕ

-- An effect as a list of patches.
abbrev pub patches : ℕ → Effect → List Patch
patches save none = []
patches save (saves ys) = record { seg = save; at = 0; bytes = ys } ∷ []
patches save (stores ys s at bs) = record { seg = save; at = 0; bytes = ys } ∷ record { seg = s; at = at; bytes = bs } ∷ []

either_left : (a b : Bool) → T a → a || b ≡ true
either_left true b h = refl
either_left false b h = absurd h

either_right : (a b : Bool) → b ≡ true → a || b ≡ true
either_right true b e = refl
either_right false b e = e

module _ (v : View) where
  unfoldable pub patched : List Patch → List ℕ → List ℕ
  patched [] m = m
  patched (x ∷ xs) m = patched xs (sets m (v.base x.seg + x.at) x.bytes)

  -- Each patch lies in a segment of W(p), inside it.
  unfoldable pub Allowed : ℕ → List Patch → Type 0
  Allowed p [] = Unit {0}
  Allowed p (x ∷ xs) = (x.seg < v.segments) × (writable v p x.seg ≡ true) × (x.at + length x.bytes ≤ v.size x.seg) × Allowed p xs

  save_readable : (p : ℕ) → readable v p (v.save p) ≡ true
  save_readable p = either_left (eqb (v.save p) (v.save p)) _ (eqb_refl (v.save p))

  save_writable : (p : ℕ) → writable v p (v.save p) ≡ true
  save_writable p = either_left (eqb (v.save p) (v.save p)) _ (eqb_refl (v.save p))

  line_readable : (p s : ℕ) → v.reads p s ≡ true → readable v p s ≡ true
  line_readable p s e = either_right (eqb s (v.save p)) _ e

  line_writable : (p s : ℕ) → v.writes p s ≡ true → writable v p s ≡ true
  line_writable p s e = either_right (eqb s (v.save p)) _ e

  patched_length : (xs : List Patch) (m : List ℕ) → length (patched xs m) ≡ length m
  unfolding patched
  patched_length [] m = refl
  patched_length (x ∷ xs) m = patched_length xs _ ∙ length-sets m (v.base x.seg + x.at) x.bytes

  -- What patches do to the bytes of one segment.
  patch_in' : {A : Type 0} → Dec A → Patch → List ℕ → List ℕ
  patch_in' (yes _) x b = sets b x.at x.bytes
  patch_in' (no _) x b = b

  patch_in : ℕ → List Patch → List ℕ → List ℕ
  patch_in t [] b = b
  patch_in t (x ∷ xs) b = patch_in t xs (patch_in' (ℕ_discrete x.seg t) x b)

  -- Law B on a whole segment: what is not in W(p) stays.
  outside : (p t : ℕ) (xs : List Patch) (b : List ℕ) → Allowed p xs → writable v p t ≡ false → patch_in t xs b ≡ b
  unfolding patch_in patch_in' Allowed
  outside p t [] b ok out = refl
  outside p t (x ∷ xs) b ok out = outside p t xs (patch_in' (ℕ_discrete x.seg t) x b) ok.3 out ∙ go (ℕ_discrete x.seg t)
    where
      go : (d : Dec (x.seg ≡ t)) → patch_in' d x b ≡ b
      go (yes e) = absurd (false≢true (sym out ∙ rw (← e) ok.1))
      go (no _) = refl

  -- Law B on one byte: what lies in no segment of W(p) stays.
  byte_outside : (p i : ℕ) (xs : List Patch) (m : List ℕ) → Allowed p xs
      → ((s : ℕ) → s < v.segments → writable v p s ≡ true → (i < v.base s) ⊎ (v.base s + v.size s ≤ i)) → get_or (patched xs m) i 0 ≡ get_or m i 0
  unfolding patched Allowed
  byte_outside p i [] m ok out = refl
  byte_outside p i (x ∷ xs) m ok out =
      byte_outside p i xs (sets m (v.base x.seg + x.at) x.bytes) ok.3 out
      ∙ get_d_sets_other (v.base x.seg + x.at) i x.bytes m
      (⊎_elim (λ h. inl (omega arith)) (λ h. let g = ok.2 in inr (omega arith)) (out x.seg ok.0 ok.1))

module _ (limits : Limits) (v : View) (W : Lawful limits v) where
  abbrev bytes_of : ℕ → List ℕ → List ℕ
  bytes_of s m = part m (v.base s) (v.size s)

  patched_select : (p t : ℕ) (xs : List Patch) (m : List ℕ) → t < v.segments → Allowed v p xs → bytes_of t (patched v xs m) ≡ patch_in v t xs (bytes_of t m)
  unfolding patched patch_in patch_in' Allowed
  patched_select p t [] m ht ok = refl
  patched_select p t (x ∷ xs) m ht ok =
      patched_select p t xs (sets m (v.base x.seg + x.at) x.bytes) ht ok.3 ∙ ap (patch_in v t xs) (go (ℕ_discrete x.seg t))
    where
      go : (d : Dec (x.seg ≡ t)) → part (sets m (v.base x.seg + x.at) x.bytes) (v.base t) (v.size t) ≡ patch_in' v d x (part m (v.base t) (v.size t))
      go (yes e) =
          subst (λ u. part (sets m (v.base x.seg + x.at) x.bytes) (v.base u) (v.size u) ≡ sets (part m (v.base u) (v.size u)) x.at x.bytes) e
          (part-sets (v.base x.seg) (v.size x.seg) x.at x.bytes m ok.2)
      go (no n) =
          let g = ok.2 in
          part-sets_other (v.base t) (v.size t) (v.base x.seg + x.at) x.bytes m
          (⊎_elim (λ h. inl (omega arith)) (λ h. inr (omega arith)) (W.disjoint x.seg t ok.0 ht n))

  module _ (p : ℕ) (hp : p < v.partitions) where
    pub save_fits : (m : List ℕ) → length m ≡ limits.memory → v.base (v.save p) + 44 ≤ length m
    save_fits m l = omega (arith, W.inside (v.save p) (W.save_there p hp), W.save_size p hp)

    touches_allowed : (e : Effect) → Touches (seat v p) e → Allowed v p (patches (v.save p) e)
    unfolding Allowed
    touches_allowed none k = tt
    touches_allowed (saves ys) k = (W.save_there p hp, save_writable v p, omega (arith, W.save_size p hp), tt)
    touches_allowed (stores ys s at bs) k = (
      W.save_there p hp,
      save_writable v p,
      omega (arith, W.save_size p hp, k.0),
      (reaches_there _ _ _ k.1, line_writable v p s (reaches-given _ _ _ k.1), k.2, tt),
    )

    -- The effect applied is its patches, one after the other.
    applied_patched : (e : Effect) (m : List ℕ) → length m ≡ limits.memory → Touches (seat v p) e → applied (seat v p) (v.base (v.save p)) e m ≡ patched v (patches (v.save p) e) m
    unfolding patched
    applied_patched none m l k = refl
    applied_patched (saves ys) m l k = rw add-zero (with-sets m (v.base (v.save p)) 44 ys (save_fits m l) k)
    applied_patched (stores ys s at bs) m l k = rw (add-zero, with-sets m (v.base (v.save p)) 44 ys (save_fits m l) k.0)

    abbrev seen : ℕ → List ℕ → Sees
    seen k m = sees (seat v p) (v.code p) (v.save p) k m

    abbrev done : ℕ → List ℕ → Effect
    done k m = effect (seat v p) (v.size (v.code p)) (seen k m)

    pub saved_length : (m : List ℕ) → length m ≡ limits.memory → length (part m (v.base (v.save p)) 44) ≡ 44
    saved_length m l = rw (length-take, length-drop) (omega (arith, save_fits m l))

    -- Law A: memories that are equal on R(p) look the same to p, if the counts are equal too.
    pub law_A : (k k' : ℕ) (m m' : List ℕ) → k ≡ k' → ((s : ℕ) → Segs v p s → bytes_of s m ≡ bytes_of s m') → seen k m ≡ seen k' m'
    unfolding looks
    law_A k k' m m' ek same = rw (ek, saved, code, fun_ext (λ s. look s (may_load (seat v p) s) refl))
      where
        saved : part m (v.base (v.save p)) 44 ≡ part m' (v.base (v.save p)) 44
        saved = rw (← W.save_size p hp) (same (v.save p) (record { there = W.save_there p hp; read = save_readable v p }))

        code : bytes_of (v.code p) m ≡ bytes_of (v.code p) m'
        code = same (v.code p) (record { there = W.code_there p hp; read = line_readable v p (v.code p) (W.code_read p hp) })

        look : (s : ℕ) (b : Bool) → may_load (seat v p) s ≡ b → cond b (bytes_of s m) [] ≡ cond b (bytes_of s m') []
        look s true e = same s (record { there = reaches_there _ _ _ e; read = line_readable v p s (reaches-given _ _ _ e) })
        look s false e = refl

    -- So the effect is the same.
    pub same_effect : (k k' : ℕ) (m m' : List ℕ) → k ≡ k' → ((s : ℕ) → Segs v p s → bytes_of s m ≡ bytes_of s m') → done k m ≡ done k' m'
    same_effect k k' m m' ek same = ap (effect (seat v p) (v.size (v.code p))) (law_A k k' m m' ek same)

    -- Law B: a tick's writes lie in W(p), inside the segment.
    pub law_B : (k : ℕ) (m : List ℕ) → length m ≡ limits.memory → Allowed v p (patches (v.save p) (done k m))
    law_B k m l = touches_allowed (done k m) (effect_touches (seat v p) (v.size (v.code p)) (seen k m) (saved_length m l))

    abbrev after : ℕ → List ℕ → List ℕ
    after k m = tick_of (seat v p) (v.code p) (v.save p) k m

    after_patched : (k : ℕ) (m : List ℕ) → length m ≡ limits.memory → after k m ≡ patched v (patches (v.save p) (done k m)) m
    unfolding tick_of
    after_patched k m l = applied_patched (done k m) m l (effect_touches (seat v p) (v.size (v.code p)) (seen k m) (saved_length m l))

    pub after_length : (k : ℕ) (m : List ℕ) → length m ≡ limits.memory → length (after k m) ≡ limits.memory
    after_length k m l = rw (after_patched k m l) (patched_length v (patches (v.save p) (done k m)) m ∙ l)

    -- Every byte outside W(p) is unchanged, bytes in no segment too.
    pub unchanged : (k : ℕ) (m : List ℕ) (i : ℕ) → length m ≡ limits.memory
        → ((s : ℕ) → s < v.segments → writable v p s ≡ true → (i < v.base s) ⊎ (v.base s + v.size s ≤ i)) → get_or (after k m) i 0 ≡ get_or m i 0
    unchanged k m i l out = rw (after_patched k m l) (byte_outside v p i (patches (v.save p) (done k m)) m (law_B k m l) out)

    -- The bytes of t after a tick: the effect's patches on the bytes of t before it.
    after_select : (t k : ℕ) (m : List ℕ) → t < v.segments → length m ≡ limits.memory → bytes_of t (after k m) ≡ patch_in v t (patches (v.save p) (done k m)) (bytes_of t m)
    after_select t k m ht l = rw (after_patched k m l) (patched_select p t (patches (v.save p) (done k m)) m ht (law_B k m l))

    pub tick_separates : (t k k' : ℕ) (m m' : List ℕ) → t < v.segments → length m ≡ limits.memory → length m' ≡ limits.memory
        → k ≡ k' → bytes_of t m ≡ bytes_of t m'
        → ((s : ℕ) → Segs v p s → Dia v t s → bytes_of s m ≡ bytes_of s m') → bytes_of t (after k m) ≡ bytes_of t (after k' m')
    tick_separates t k k' m m' ht l l' ek et es = after_select t k m ht l ∙ go (writable v p t) refl ∙ sym (after_select t k' m' ht l')
      where
        same : writable v p t ≡ true → (s : ℕ) → Dec (s ≡ t) → Segs v p s → bytes_of s m ≡ bytes_of s m'
        same w s (yes e) r = rw e et
        same w s (no n) r =
            es s r (record { from = r.there; to = ht; stands = W.flow_asked p t s hp ht r.there w r.read n })

        go : (b : Bool) → writable v p t ≡ b → patch_in v t (patches (v.save p) (done k m)) (bytes_of t m) ≡ patch_in v t (patches (v.save p) (done k' m')) (bytes_of t m')
        go true w =
            ap₂ (λ e b. patch_in v t (patches (v.save p) e) b)
            (same_effect k k' m m' ek (λ s r. same w s (ℕ_discrete s t) r)) et
        go false w = outside v p t _ _ (law_B k m l) w ∙ et ∙ sym (outside v p t _ _ (law_B k' m' l') w)

  -- Source document 003's separation, in the form of 02, S-8: two states with the same current partition and the same count, equal in t and in each
  -- segment of segs(current) and dia(t), have equal t after next.
  pub separation : (t : ℕ) (x y : State) → t < v.segments → Stands limits v x → Stands limits v y → current v x ≡ current v y
      → x.place.count ≡ y.place.count
      → select v t x ≡ select v t y
      → ((s : ℕ) → Segs v (current v x) s → Dia v t s → select v s x ≡ select v s y)
      → select v t (next v x) ≡ select v t (next v y)
  unfolding next
  separation t x y ht sx sy same ek et es =
      rw (← same, ek)
      (tick_separates (current v x) (W.owner_there x.place.slot (slot_there v x.place sx.placed)) t _ _ x.memory y.memory ht sx.whole sy.whole refl et es)

  -- A tick keeps memory's size, and the place in the schedule.
  pub next_stands : (x : State) → Stands limits v x → Stands limits v (next v x)
  unfolding next
  next_stands x s =
      record {
        whole = after_length (current v x) (W.owner_there x.place.slot (slot_there v x.place s.placed)) _ x.memory s.whole;
        placed = moved_stays limits v x.place W s.placed;
      }
