-- What reading a text answers of it, with 01's number and line.
use Rattle.std.specs.Prelude.{ℕ, Bool, Result, Ok, Err, is_ok}
use Rattle.policy.specs.declared.record.Refusal.{Refusal}
use Rattle.policy.specs.declared.record.Refusal.TheVariants.{TooLong, Malformed, OutOfOrder, OutOfRange}
use Rattle.policy.specs.declared.record.Refusal.TheVariants.{Clash, Incomplete, CodeUnreadable, FlowMissing, StraySource}

-- That a text is accepted, or why it is refused.
abbrev pub Verdict : Type 0
Verdict = Result (Unit {0}) Refusal

-- "An accepted text returns number 0, line 0"; "1: over 16,384 bytes, line 0"; 2 to 5 for a line; "Then, with line 0: 6
-- .. 7 .. 8"; 02, S-5: "16 .. line 0, after 8".
abbrev pub number_of : Verdict → ℕ
number_of (Ok accepted) = 0
number_of (Err TooLong) = 1
number_of (Err (Malformed line)) = 2
number_of (Err (OutOfOrder line)) = 3
number_of (Err (OutOfRange line)) = 4
number_of (Err (Clash line)) = 5
number_of (Err Incomplete) = 6
number_of (Err CodeUnreadable) = 7
number_of (Err FlowMissing) = 8
number_of (Err StraySource) = 16

abbrev pub line_number_of : Verdict → ℕ
line_number_of (Ok accepted) = 0
line_number_of (Err TooLong) = 0
line_number_of (Err (Malformed line)) = line
line_number_of (Err (OutOfOrder line)) = line
line_number_of (Err (OutOfRange line)) = line
line_number_of (Err (Clash line)) = line
line_number_of (Err Incomplete) = 0
line_number_of (Err CodeUnreadable) = 0
line_number_of (Err FlowMissing) = 0
line_number_of (Err StraySource) = 0

abbrev pub is_accepted : Verdict → Bool
is_accepted verdict = is_ok verdict
