-- The two masks that a right line changes, stored as the code stores them: the line's rights are added.
use Prim.Native.Nat.{ℕ}
use mathlib.Core.Path.{◌≡◌, refl}
use mathlib.Core.Bool.{Bool, true, false, cond}
use mathlib.Core.List.{List}
use lib.ListN.{get_or, set}
use lib.Seq.{set-get_or}
use Rattle.bits.specs.Masks.{with_bit}
use Rattle.text.specs.declared.line.Line.TheVariants.{Right}
use Rattle.policy.specs.declared.record.Policy.{Policy}
use Rattle.policy.specs.Draft.{added, with_bit_at, with_rights}
use Rattle.policy.specs.Modes.{gives_read, gives_write}
use Rattle.policy.specs.Record.{tables_of}

-- A mask that is stored with its bit, or as it was.
put_where : (b : Bool) (masks : List ℕ) (p s : ℕ) →
    set masks p (cond b (with_bit (get_or masks p 0) s) (get_or masks p 0)) ≡ cond b (with_bit_at masks p s) masks
put_where true masks p s = refl
put_where false masks p s = set-get_or masks p 0

pub stored_right : (q : Policy) (p s mode r w : ℕ) →
    r ≡ cond (gives_read mode) (with_bit (get_or q.reads p 0) s) (get_or q.reads p 0) →
    w ≡ cond (gives_write mode) (with_bit (get_or q.writes p 0) s) (get_or q.writes p 0) →
    with_rights (tables_of q) (record { reads = set q.reads p r; writes = set q.writes p w }) ≡ added (tables_of q) (Right p s mode)
unfolding added
stored_right q p s mode r w er ew =
    rw (er, ew, put_where (gives_read mode) q.reads p s, put_where (gives_write mode) q.writes p s)
