-- 02, S-6: "Show that old and new records from the same text stand for the same rights and flows, and that all operations
-- answer alike on them."
use Rattle.std.specs.Prelude.{ℕ, ◌≡◌, true, List, ◌↔◌}
use Rattle.policy.specs.Refusals.{Verdict}
use Rattle.policy.specs.Limits.{single}
use Rattle.policy.specs.Tables.{Tables, view_of}
use Rattle.policy.specs.Read.{Answer, read_of}
use Rattle.policy.specs.Sound.{Sound}
use Rattle.alike.specs.Bytes.{Bytes, BytesAnswer, view_of_bytes, read_bytes, SoundBytes, AreBytes, AreMasks, StandsFor}
use Rattle.machine.specs.Machine.{State}
use Rattle.calls.specs.Under.{Under, under}
use Rattle.calls.specs.Start.{start_answer, after_start}
use Rattle.calls.specs.Pend.{pend_outcome, after_pend}
use Rattle.calls.specs.Run.{run_answer, after_run}
use Rattle.report.specs.Report.{report_with, report_of}

-- "from the same text": the same refusal with the same line, and records that stand for the same rights and flows.
pub record SameAnswer (a : BytesAnswer) (c : Answer) : Type 0 where
  pub refusal : a.refusal ≡ c.refusal
  pub stands : StandsFor a.bytes c.tables
  pub bytes : AreBytes a.bytes

abbrev pub SameText : Type 0
SameText = (text : List ℕ) → SameAnswer (read_bytes text) (read_of single text)

-- Each record has one counterpart and no other: a byte record its masks, and a record of masks its bytes.
pub record MasksOf (b : Bytes) : Type 0 where
  pub masks : Tables
  pub form : AreMasks masks
  pub stands : StandsFor b masks
  pub only : (t : Tables) → AreMasks t → StandsFor b t → t ≡ masks

pub record BytesOf (t : Tables) : Type 0 where
  pub bytes : Bytes
  pub form : AreBytes bytes
  pub stands : StandsFor bytes t
  pub only : (b : Bytes) → AreBytes b → StandsFor b t → b ≡ bytes

abbrev pub OneMasks : Type 0
OneMasks = (b : Bytes) → AreBytes b → MasksOf b

abbrev pub OneBytes : Type 0
OneBytes = (t : Tables) → AreMasks t → t.unused ≡ 0 → BytesOf t

-- What the operations ask of a byte record: the single head's limits, its view, and whether it is sound.
pub record UnderBytes (b : Bytes) (u : Under) : Type 0 where
  pub limits : u.limits ≡ single
  pub view : u.view ≡ view_of_bytes b
  pub sound : u.sound ≡ true ↔ SoundBytes b

-- Whether the two are sound, what the rules and the machine see of them, and what the operations answer: number, memory and
-- place; policycheck's report.
pub record AnswersAlike (b : Bytes) (u : Under) (t : Tables) : Type 0 where
  pub soundness : SoundBytes b ↔ Sound single t
  pub views : view_of_bytes b ≡ view_of t
  pub start : (memory : List ℕ) → start_answer u memory ≡ start_answer (under single t) memory
  pub start_memory : (memory : List ℕ) → after_start u memory ≡ after_start (under single t) memory
  pub pend : (memory : List ℕ) (partition line : ℕ) →
      pend_outcome u memory partition line ≡ pend_outcome (under single t) memory partition line
  pub pend_memory : (memory : List ℕ) (partition line : ℕ) →
      after_pend u memory partition line ≡ after_pend (under single t) memory partition line
  pub run : (x : State) (n : ℕ) → run_answer u x n ≡ run_answer (under single t) x n
  pub run_state : (x : State) (n : ℕ) → after_run u x n ≡ after_run (under single t) x n
  pub report : (refusal : Verdict) → report_with refusal (view_of_bytes b) ≡ report_with refusal (view_of t)

-- For each byte record whose bytes are those that 01 names, and the masks that stand for the same.
abbrev pub AllAlike : Type 0
AllAlike =
    (b : Bytes) (t : Tables) → AreBytes b → AreMasks t → StandsFor b t → (u : Under) → UnderBytes b u → AnswersAlike b u t

-- policycheck's report on a text, by the byte record.
abbrev pub report_of_bytes : List ℕ → List ℕ
report_of_bytes text = let a = read_bytes text in report_with a.refusal (view_of_bytes a.bytes)

abbrev pub ReportAlike : Type 0
ReportAlike = (text : List ℕ) → report_of_bytes text ≡ report_of single text
