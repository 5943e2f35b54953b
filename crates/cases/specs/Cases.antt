-- 01: "K1 to K10 are shown to hold of the definitions by one shared claim over a list of cases". The cases after these are 02's: S-2's
-- four bytes at once, S-4's "Several texts may now give one record", S-5's stray line, and S-8's count of ticks.
use Rattle.std.specs.Prelude.{ℕ, ◌+◌, ◌-◌, Bool, true, ◌&&◌, not, List, [], ◌∷◌, ◌++◌, length, take, drop, set, replicate, eqb}
use Rattle.std.proofs.lemmas.List.Edits.{sets}
use Rattle.text.specs.Bytes.{bytes_of, same}
use Rattle.policy.specs.Limits.{single}
use Rattle.policy.specs.Refusals.{number_of, line_number_of, is_accepted}
use Rattle.policy.specs.Tables.{Tables}
use Rattle.policy.specs.Read.{read_of}
use Rattle.machine.specs.Place.{place_of, count_after}
use Rattle.machine.specs.Machine.{State}
use Rattle.calls.specs.Under.{Under, under}
use Rattle.calls.specs.Start.{after_start}
use Rattle.calls.specs.Run.{state_of, after_run}
use Rattle.cases.specs.Demonstration.{joined, demonstration, in_hexadecimal}

-- Bytes from a place of memory on.
pub record Bytes : Type 0 where
  pub at : ℕ
  pub are : List ℕ

abbrev pub bytes : ℕ → List ℕ → Bytes
bytes at are = record { at = at; are = are }

abbrev pub with : List ℕ → List Bytes → List ℕ
with memory [] = memory
with memory (b ∷ bs) = with (sets memory b.at b.are) bs

abbrev pub found : List ℕ → List Bytes → Bool
found memory [] = true
found memory (b ∷ bs) = same (take (length b.are) (drop b.at memory)) b.are && found memory bs

pub data Case : Type 0 where
  -- a text, and the number and the line that reading it answers
  reads : List ℕ → ℕ → ℕ → Case
  -- under the demonstration policy: the count to begin with, the bytes put into a memory of zeros before Start, those put
  -- after it, the ticks run from slot 0 with 0 used, the bytes then found, and the slot and the ticks used then
  runs_from : ℕ → List Bytes → List Bytes → ℕ → List Bytes → ℕ → ℕ → Case
  -- two different texts, both accepted, with one record
  alike : List ℕ → List ℕ → Case

-- From the place that Start leaves, with count 0.
abbrev pub runs : List Bytes → List Bytes → ℕ → List Bytes → ℕ → ℕ → Case
runs = runs_from 0

abbrev pub policy : Under
policy = under single (read_of single (joined demonstration)).tables

-- The state after a Start and a Run.
abbrev pub ran : ℕ → List Bytes → List Bytes → ℕ → State
ran count before after n =
    after_run policy (state_of (with (after_start policy (with (replicate single.memory 0) before)) after) (place_of 0 0 count)) n

-- Whether two records have the same entries.
abbrev pub same_tables : Tables → Tables → Bool
same_tables t u =
    eqb t.segments.count u.segments.count
    && same t.segments.base u.segments.base
    && same t.segments.size u.segments.size
    && eqb t.partitions.count u.partitions.count
    && same t.partitions.code u.partitions.code
    && same t.partitions.save u.partitions.save
    && eqb t.slots.count u.slots.count
    && same t.slots.owner u.slots.owner
    && same t.slots.ticks u.slots.ticks
    && same t.rights.reads u.rights.reads
    && same t.rights.writes u.rights.writes
    && same t.flows.sources u.flows.sources
    && eqb t.unused u.unused

unfoldable pub holds : Case → Bool
holds (reads text n line) =
    let refusal = (read_of single text).refusal in
    eqb (number_of refusal) n && eqb (line_number_of refusal) line
holds (runs_from count before after n bytes slot used) =
    let x = ran count before after n in
    found x.memory bytes && eqb x.place.slot slot && eqb x.place.used used && eqb x.place.count (count_after n count)
holds (alike text other) =
    let r = read_of single text in
    let o = read_of single other in
    not (same text other) && is_accepted r.refusal && is_accepted o.refusal && same_tables r.tables o.tables

abbrev pub all_hold : List Case → Bool
all_hold [] = true
all_hold (c ∷ cs) = holds c && all_hold cs

abbrev pub without : ℕ → List (List ℕ) → List (List ℕ)
without i lines = take i lines ++ drop (i + 1) lines

-- The save segment of partition 0 stands at 64: its counter at 96, state 98, fault 99, pended 100, enabled 101,
-- in-handler 106.
abbrev pub cases : List Case
cases =
    -- the demonstration head is accepted
    reads (joined demonstration) 0 0
    -- K1: without "flow 1 4", refusal 8, line 0
    ∷ reads (joined (without 13 demonstration)) 8 0
    -- K2: empty text, 6, line 0
    ∷ reads [] 6 0
    -- K3: last line end cut off, 2, line 18
    ∷ reads (take (length (joined demonstration) - 1) (joined demonstration)) 2 18
    -- K4: segment 1 with base 63, 5, line 2
    ∷ reads (joined (set demonstration 1 (bytes_of "segment\t1\t63\t44\n"))) 5 2
    -- K5: segment 0 holds hex 01 00 41 00, 08 00 01 04, 00 00 00 00; after Start and 3 ticks byte 256 is 65, counter 8,
    -- state 1, place slot 1 with 0 used
    ∷ runs (bytes 0 (0x01 ∷ 0x00 ∷ 0x41 ∷ 0x00 ∷ 0x08 ∷ 0x00 ∷ 0x01 ∷ 0x04 ∷ 0x00 ∷ 0x00 ∷ 0x00 ∷ 0x00 ∷ []) ∷ [])
    [] 3 (bytes 256 (65 ∷ []) ∷ bytes 96 (8 ∷ 0 ∷ 1 ∷ 0 ∷ []) ∷ []) 1 0
    -- K6: partition 0 loading from segment 4, fault 3
    ∷ runs (bytes 0 (0x07 ∷ 0x00 ∷ 0x01 ∷ 0x04 ∷ []) ∷ []) [] 1 (bytes 96 (0 ∷ 0 ∷ 2 ∷ 3 ∷ []) ∷ []) 0 1
    -- K7: storing at offset 15 of segment 4 works, at 16 fault 4
    ∷ runs (bytes 0 (0x08 ∷ 0x00 ∷ 0x01 ∷ 0x04 ∷ []) ∷ []) (bytes 64 (7 ∷ 0 ∷ 0 ∷ 0 ∷ 15 ∷ []) ∷ []) 1
    (bytes 271 (7 ∷ 0 ∷ []) ∷ bytes 96 (4 ∷ 0 ∷ 0 ∷ 0 ∷ []) ∷ []) 0 1
    ∷ runs (bytes 0 (0x08 ∷ 0x00 ∷ 0x01 ∷ 0x04 ∷ []) ∷ []) (bytes 64 (7 ∷ 0 ∷ 0 ∷ 0 ∷ 16 ∷ []) ∷ []) 1
    (bytes 271 (0 ∷ 0 ∷ []) ∷ bytes 96 (0 ∷ 0 ∷ 2 ∷ 4 ∷ []) ∷ []) 0 1
    -- K8: counter 60 fetches, 61 is fault 1
    ∷ runs [] (bytes 96 (60 ∷ []) ∷ []) 1 (bytes 96 (60 ∷ 0 ∷ 1 ∷ 0 ∷ []) ∷ []) 0 1
    ∷ runs [] (bytes 96 (61 ∷ []) ∷ []) 1 (bytes 96 (61 ∷ 0 ∷ 2 ∷ 1 ∷ []) ∷ []) 0 1
    -- K9: pended 6, enabled 7: line 1 taken, pended 4, r7 1
    ∷ runs [] (bytes 100 (6 ∷ 7 ∷ []) ∷ []) 1
    (bytes 100 (4 ∷ 7 ∷ []) ∷ bytes 92 (1 ∷ 0 ∷ 0 ∷ 0 ∷ []) ∷ bytes 106 (1 ∷ []) ∷ []) 0 1
    -- K10: 0 − 1 is 4,294,967,295
    ∷ runs (bytes 0 (0x03 ∷ 0x00 ∷ 0x01 ∷ 0x02 ∷ []) ∷ []) (bytes 72 (1 ∷ []) ∷ []) 1
    (bytes 64 (0xff ∷ 0xff ∷ 0xff ∷ 0xff ∷ []) ∷ bytes 96 (4 ∷ 0 ∷ 0 ∷ 0 ∷ []) ∷ []) 0 1
    -- S-2: four bytes stored at offset 12 of segment 4; at 13, and at 4,294,967,293, fault 4; loaded from the code at 1
    ∷ runs (bytes 0 (0x0e ∷ 0x00 ∷ 0x01 ∷ 0x04 ∷ []) ∷ []) (bytes 64 (1 ∷ 2 ∷ 3 ∷ 4 ∷ 12 ∷ []) ∷ []) 1
    (bytes 267 (0 ∷ 1 ∷ 2 ∷ 3 ∷ 4 ∷ 0 ∷ []) ∷ bytes 96 (4 ∷ 0 ∷ 0 ∷ 0 ∷ []) ∷ []) 0 1
    ∷ runs (bytes 0 (0x0e ∷ 0x00 ∷ 0x01 ∷ 0x04 ∷ []) ∷ []) (bytes 64 (1 ∷ 2 ∷ 3 ∷ 4 ∷ 13 ∷ []) ∷ []) 1
    (bytes 267 (0 ∷ 0 ∷ 0 ∷ 0 ∷ 0 ∷ 0 ∷ []) ∷ bytes 96 (0 ∷ 0 ∷ 2 ∷ 4 ∷ []) ∷ []) 0 1
    ∷ runs (bytes 0 (0x0e ∷ 0x00 ∷ 0x01 ∷ 0x04 ∷ []) ∷ [])
    (bytes 64 (1 ∷ 2 ∷ 3 ∷ 4 ∷ 0xfd ∷ 0xff ∷ 0xff ∷ 0xff ∷ []) ∷ []) 1
    (bytes 253 (0 ∷ 0 ∷ 0 ∷ 0 ∷ 0 ∷ 0 ∷ 0 ∷ []) ∷ bytes 96 (0 ∷ 0 ∷ 2 ∷ 4 ∷ []) ∷ []) 0 1
    ∷ runs (bytes 0 (0x0d ∷ 0x00 ∷ 0x01 ∷ 0x00 ∷ 0xc8 ∷ []) ∷ []) (bytes 64 (9 ∷ 9 ∷ 9 ∷ 9 ∷ 1 ∷ []) ∷ []) 1
    (bytes 64 (0 ∷ 1 ∷ 0 ∷ 0xc8 ∷ []) ∷ bytes 96 (4 ∷ 0 ∷ 0 ∷ 0 ∷ []) ∷ []) 0 1
    -- S-4: the demonstration head, and the same in hexadecimal
    ∷ alike (joined demonstration) (joined in_hexadecimal)
    -- S-5: with "flow 4 1" too, 16, line 0; without "flow 0 1" then 8; with "flow 4 0", into no save segment, accepted
    ∷ reads (joined (set demonstration 15 (bytes_of "flow\t4\t1\nflow\t4\t3\n"))) 16 0
    ∷ reads (joined (without 11 (set demonstration 15 (bytes_of "flow\t4\t1\nflow\t4\t3\n")))) 8 0
    ∷ reads (joined (set demonstration 15 (bytes_of "flow\t4\t0\nflow\t4\t3\n"))) 0 0
    -- S-8: the count before each of three ticks, over the end to 0; with a of 8, fault 2
    ∷ runs_from 4294967294 (bytes 0 (0x0f ∷ 0x00 ∷ 0xff ∷ 0xff ∷ 0x0f ∷ 0x07 ∷ 0x08 ∷ 0x80 ∷ 0x0f ∷ 0x01 ∷ 0x00 ∷ 0x00 ∷ []) ∷ [])
    (bytes 68 (9 ∷ 9 ∷ 9 ∷ 9 ∷ []) ∷ []) 3
    (bytes 64 (0xfe ∷ 0xff ∷ 0xff ∷ 0xff ∷ 0 ∷ 0 ∷ 0 ∷ 0 ∷ []) ∷ bytes 92 (0xff ∷ 0xff ∷ 0xff ∷ 0xff ∷ 12 ∷ 0 ∷ 0 ∷ 0 ∷ []) ∷ []) 1 0
    ∷ runs (bytes 0 (0x0f ∷ 0x08 ∷ 0x00 ∷ 0x00 ∷ []) ∷ []) [] 1 (bytes 64 (0 ∷ []) ∷ bytes 96 (0 ∷ 0 ∷ 2 ∷ 2 ∷ []) ∷ []) 0 1
    -- every tick counts: three instructions, and seven ticks of partitions that have halted
    ∷ runs (bytes 0 (0x0f ∷ 0x00 ∷ 0x00 ∷ 0x00 ∷ 0x00 ∷ []) ∷ []) [] 10 (bytes 64 (0 ∷ 0 ∷ 0 ∷ 0 ∷ []) ∷ bytes 96 (4 ∷ 0 ∷ 1 ∷ 0 ∷ []) ∷ []) 0 0
    ∷ []
