-- 01, "Memory and policy": "The save segment is 44 bytes, little-endian: registers r0 to r7 at 0 to 31, four bytes
-- each; program counter 32–33; state 34 ..; fault 35; pended lines 36 and enabled lines 37 ..; return place 38–39;
-- handler place 40–41; in-handler 42 ..; 43 unused."
use Rattle.std.specs.Prelude.{ℕ}
use Rattle.policy.specs.Limits.{save_size}

pub record SaveLayout : Type 0 where
  pub size : ℕ
  -- of a register; they stand from 0 on
  pub width : ℕ
  pub counter : ℕ
  pub state : ℕ
  pub fault : ℕ
  pub pended : ℕ
  pub enabled : ℕ
  pub return : ℕ
  pub handler : ℕ
  pub in_handler : ℕ
  -- the register that an interrupt puts its line into
  pub line_register : ℕ

abbrev pub layout : SaveLayout
layout =
    record {
      size = save_size;
      width = 4;
      counter = 32;
      state = 34;
      fault = 35;
      pended = 36;
      enabled = 37;
      return = 38;
      handler = 40;
      in_handler = 42;
      line_register = 7;
    }

-- "0 ready, 1 halted, 2 faulted, 3 waiting, above 3 taken as halted"
abbrev pub ready : ℕ
ready = 0

abbrev pub halted : ℕ
halted = 1

abbrev pub faulted : ℕ
faulted = 2

abbrev pub waiting : ℕ
waiting = 3
