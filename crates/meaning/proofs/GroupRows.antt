-- The groups of a table, stored group line by group line; and what the table holds of them.
-- Assumes nothing.
use Prim.Native.Nat.{ℕ, suc, ◌≤◌}
use mathlib.Core.Path.{◌≡◌}
use mathlib.Core.List.{List}
use native.Mathlib.Omega.{arith}
use lib.Dec.{eqb}
use Rattle.basics.specs.Over.{row_to}
use Rattle.table.specs.Limits.{max_resources, max_group}
use Rattle.table.specs.Empty.{no_groups}
use Rattle.meaning.specs.Figures.{GroupFigures, GoodGroups, group_for}
use Rattle.meaning.proofs.PutRows.{picked, Rising, no_entry, one_entry, put, row_stored}

abbrev pub resource_of : GroupFigures → ℕ
resource_of x = x.K

abbrev pub group_of : GroupFigures → ℕ
group_of x = x.G

abbrev pub put_groups : List ℕ → List GroupFigures → List ℕ
put_groups = put resource_of group_of 0

rising : {last : ℕ} {xs : List GroupFigures} → GoodGroups last xs → Rising resource_of group_of 0 last xs
rising GoodGroups.no_group = no_entry
rising (GoodGroups.one_group {x = x} i j a b r) = one_entry {x = x} a b (rising r)

pub groups_stored : {xs : List GroupFigures} → GoodGroups 0 xs → put_groups no_groups xs ≡ row_to max_resources (group_for xs)
groups_stored g = row_stored resource_of group_of 0 (rising g)

pub group_most : {last : ℕ} {xs : List GroupFigures} (k : ℕ) → GoodGroups last xs → group_for xs k ≤ max_group
group_most k GoodGroups.no_group = omega arith
group_most k (GoodGroups.one_group {x = x} {xs = xs} i j a b r) = picked (λ (G : ℕ). G ≤ max_group) (eqb x.K (suc k)) j (group_most k r)
