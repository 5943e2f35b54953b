-- The limits of a head. The rules take them as a parameter; a head with other limits is another value.
use Rattle.std.specs.Prelude.{ℕ}

pub record Limits : Type 0 where
  pub segments : ℕ
  pub partitions : ℕ
  pub slots : ℕ
  -- the bytes of memory, and of a policy text
  pub memory : ℕ
  pub text : ℕ

-- 00: "16,384 bytes of memory, up to 8 partitions, up to 32 memory segments, and a fixed schedule of at most 32 slots";
-- 01, refusal 1: "over 16,384 bytes"
abbrev pub single : Limits
single = record { segments = 32; partitions = 8; slots = 32; memory = 16384; text = 16384 }

-- 01: "a length of 1 to 4,096"
abbrev pub longest_segment : ℕ
longest_segment = 4096

-- 01: "The save segment is 44 bytes"
abbrev pub save_size : ℕ
save_size = 44

-- 01: "ticks (1 to 1,000)"
abbrev pub most_ticks : ℕ
most_ticks = 1000
