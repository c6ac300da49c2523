-- What `merge` answers of a table: what is said against it; and of a fine one the table that is read, whose tasks can be asked about.
-- Assumes nothing.
use Prim.Native.Nat.{ℕ, ◌<◌}
use mathlib.Core.Path.{◌≡◌, refl, sym, ap, ◌∙◌}
use Rattle.table.specs.declared.Table.{Table}
use Rattle.table.specs.declared.Refusal.{Refusal}
use Rattle.table.specs.Answers.{Reading, answer_of, table_from}
use Rattle.table.specs.Faults.{Checked}
use Rattle.std.specs.Prelude.{Ok, Err}
use Rattle.table.specs.Rules.{table_fault}
use Rattle.table.specs.Answers.{or_table}
use Rattle.theory.specs.Merge.{merged}
use Rattle.theory.specs.Groups.{InBounds}
use Rattle.theory.proofs.MergeLaws.{merged_bounds}

own_of : (c : Checked) (t : Table) → answer_of (or_table c t) ≡ c
own_of (Ok _) t = refl
own_of (Err r) t = refl

pub read_own : (t : Table) {r : Reading} → r ≡ or_table (table_fault t) (merged t) → answer_of r ≡ table_fault t
read_own t e = ap answer_of e ∙ own_of (table_fault t) (merged t)

-- where it gave none
pub read_refused : (t : Table) {r : Refusal} → or_table (table_fault t) (merged t) ≡ Err r → table_fault t ≡ Err r
read_refused t e = sym (own_of (table_fault t) (merged t)) ∙ ap answer_of e

-- where it gave a table
module _ (t : Table) {m : Table} (e : or_table (table_fault t) (merged t) ≡ Ok m) where
  pub read_fine : table_fault t ≡ Ok tt
  read_fine = sym (own_of (table_fault t) (merged t)) ∙ ap answer_of e

  pub read_merged : m ≡ merged t
  read_merged = sym (ap table_from e) ∙ rw read_fine

  pub read_bounds : InBounds m
  read_bounds = rw read_merged (merged_bounds t read_fine)

  pub read_asks : {i : ℕ} → i < t.n → InBounds m × (i < m.n)
  read_asks h = (read_bounds, rw read_merged h)
