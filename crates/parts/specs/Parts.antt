-- The save bytes by their place in memory, and a load and a store of so many bytes between two parts of memory.
use Rattle.std.specs.Prelude.{ℕ, ◌+◌, Bool, ◌||◌, cond, List, leb}
use Rattle.std.proofs.lemmas.List.Edits.{sets}
use Rattle.machine.specs.declared.Fault.TheVariants.{OffsetOver}
use Rattle.machine.specs.Bytes.{part, with_part, little, digits}
use Rattle.machine.specs.Layout.{layout}
use Rattle.machine.specs.Save.{register}
use Rattle.machine.specs.Faults.{faults}
use Rattle.machine.specs.Local.{advanced, resulted}
use Rattle.machine.specs.Tick.{in_segment}

abbrev pub saved_at : List ℕ → ℕ → List ℕ
saved_at memory from = part memory from layout.size

abbrev pub with_saved : List ℕ → ℕ → List ℕ → List ℕ
with_saved memory from bytes = with_part memory from layout.size bytes

-- The save bytes after a load from a segment's bytes.
unfoldable pub loaded_from : ℕ → List ℕ → List ℕ → ℕ → ℕ → ℕ → List ℕ
loaded_from width save segment size a b =
    cond (in_segment width (register save b) size)
    (resulted save a (little width segment (register save b)))
    (faults save OffsetOver)

-- Memory after a store: the save bytes first, then the bytes stored.
unfoldable pub stored_to : ℕ → List ℕ → ℕ → ℕ → ℕ → ℕ → ℕ → List ℕ
stored_to width memory from start size a b =
    let save = saved_at memory from in
    cond (in_segment width (register save b) size)
    (sets (with_saved memory from (advanced save)) (start + register save b) (digits width (register save a)))
    (with_saved memory from (faults save OffsetOver))

-- None of so many bytes from a place on is one of the save bytes.
unfoldable pub is_beside : ℕ → ℕ → ℕ → Bool
is_beside from at width = leb (at + width) from || leb (from + layout.size) at
