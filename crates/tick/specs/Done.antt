-- Memory after each step of a tick, by numbers: the save bytes from `from` on, and `room` bytes of code from `start` on.
use Rattle.std.specs.Prelude.{ℕ, List, Option}
use Rattle.machine.specs.declared.Instr.{Instr}
use Rattle.machine.specs.Bytes.{part}
use Rattle.machine.specs.Tick.{Seat, Sees, looks, loads, stores_bytes, obeys, effect, applied}
use Rattle.parts.specs.Parts.{saved_at, with_saved}

module _ (S : Seat) where
  -- A load and a store of `width` bytes.
  abbrev pub loaded : ℕ → ℕ → List ℕ → ℕ → ℕ → ℕ → List ℕ
  loaded width from memory a b c = with_saved memory from (loads S width (saved_at memory from) (looks S memory) a b c)

  abbrev pub stored : ℕ → ℕ → List ℕ → ℕ → ℕ → ℕ → List ℕ
  stored width from memory a b c = applied S from (stores_bytes S width (saved_at memory from) a b c) memory

  abbrev pub obeyed : ℕ → List ℕ → ℕ → Option Instr → List ℕ
  obeyed from memory count d = applied S from (obeys S (saved_at memory from) (looks S memory) count d) memory

  -- What the partition sees whose bytes these are.
  abbrev pub sees_from : ℕ → ℕ → ℕ → ℕ → List ℕ → Sees
  sees_from from start room count memory =
      record { saved = saved_at memory from; code = part memory start room; look = looks S memory; count = count }

  -- The machine's tick of a partition is this one, at its segments' bases and its code's size.
  abbrev pub ticked : ℕ → ℕ → ℕ → ℕ → List ℕ → List ℕ
  ticked from start room count memory = applied S from (effect S room (sees_from from start room count memory)) memory
