-- The record of the single head, and what reading a text answers with it, as the definitions know them.
use Rattle.std.specs.Prelude.{Result, Ok, Err}
use Rattle.policy.specs.declared.record.Policy.{Policy}
use Rattle.policy.specs.declared.record.Refusal.{Refusal}
use Rattle.policy.specs.Limits.{single}
use Rattle.policy.specs.Tables.{Tables, zeros}
use Rattle.policy.specs.Read.{Answer}

abbrev pub tables_of : Policy → Tables
tables_of p =
    record {
      segments = record { count = p.segments; base = p.base; size = p.size };
      partitions = record { count = p.partitions; code = p.code; save = p.save };
      slots = record { count = p.slots; owner = p.owner; ticks = p.ticks };
      rights = record { reads = p.reads; writes = p.writes };
      flows = record { sources = p.sources };
      unused = p.unused;
    }

-- A refused text comes with the record of zeros.
abbrev pub answer_of : Result Policy Refusal → Answer
answer_of (Ok policy) = record { refusal = Ok tt; tables = tables_of policy }
answer_of (Err refusal) = record { refusal = Err refusal; tables = zeros single }
