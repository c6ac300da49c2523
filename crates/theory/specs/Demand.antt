-- Document 01, "The analysis": for task i and a length t, the terms (6) to (10) and the demand (11).
use Rattle.std.specs.Prelude.{ℕ, ◌+◌, ◌-◌, ◌*◌, not, leb}
use Rattle.basics.specs.Choice.{pick, only}
use Rattle.table.specs.declared.Level.{Level}
use Rattle.theory.specs.Work.{workload, quotient}
use Rattle.theory.specs.View.{View, is_above, over_resources, over_above, over_below, largest_below, uses, ceiling}

-- the CT of task l for "resources that i uses too", "resources that i does not use", all, and "resources whose ceiling is
-- strictly less than i"
unfoldable pub shared_CT : View → Level → Level → ℕ
shared_CT v i l = over_resources (λ k. only (uses v i k) (v.CT l k))

unfoldable pub other_CT : View → Level → Level → ℕ
other_CT v i l = over_resources (λ k. only (not (uses v i k)) (v.CT l k))

unfoldable pub all_CT : View → Level → ℕ
all_CT v l = over_resources (λ k. v.CT l k)

unfoldable pub high_CT : View → Level → Level → ℕ
high_CT v i l = over_resources (λ k. only (is_above (ceiling v k) i) (v.CT l k))

-- (6): "over the resources i uses, the sum of N of i times the largest c of that resource among tasks below i (0 if none)"
unfoldable pub DB : View → Level → ℕ
DB v i = over_resources (λ k. only (uses v i k) (v.N i k * largest_below v i (λ l. v.c l k)))

-- a workload: of T, D, t and x
abbrev pub Load : Type 0
Load = ℕ → ℕ → ℕ → ℕ → ℕ

-- the workload of task l over t, x of its units counting
abbrev pub load_of : Load → View → ℕ → Level → ℕ → ℕ
load_of W v t l x = W (v.T l) (v.D l) t x

-- (7): "over tasks above i, workload with x = the CT of resources that i uses too"
unfoldable pub S : Load → View → Level → ℕ → ℕ
S W v i t = over_above v i (λ l. load_of W v t l (shared_CT v i l))

-- (8): "the same, with x = the CT of resources that i does not use"
unfoldable pub O : Load → View → Level → ℕ → ℕ
O W v i t = over_above v i (λ l. load_of W v t l (other_CT v i l))

-- (9): "the same, with x = C less all CT of that task"
unfoldable pub F : Load → View → Level → ℕ → ℕ
F W v i t = over_above v i (λ l. load_of W v t l (v.C l - all_CT v l))

-- (10): "over tasks below i, workload with x = the CT of resources whose ceiling is strictly less than i"
unfoldable pub L : Load → View → Level → ℕ → ℕ
L W v i t = over_below v i (λ l. load_of W v t l (high_CT v i l))

-- (11): "C + DB + S if i ≤ m; otherwise C + DB + S + (O + F + L) / m", the three "added first and the one quotient .. rounded up"
unfoldable pub demand_with : Load → View → Level → ℕ → ℕ
demand_with W v i t =
    v.C i + DB v i + S W v i t + pick (leb i.0 v.cpus) 0 (quotient (O W v i t) (F W v i t) (L W v i t) v.cpus)

-- with the workload that is read: since request 3/12, that of at most t
abbrev pub demand_of : View → Level → ℕ → ℕ
demand_of v i t = demand_with workload v i t

-- which tasks' workloads stand in the demand of i: of task l so many units count, those of S, and for i > m those of O, F and L
abbrev pub units_divided : View → Level → Level → ℕ
units_divided v i l = only (is_above l i) (other_CT v i l + (v.C l - all_CT v l)) + only (is_above i l) (high_CT v i l)

unfoldable pub units_read : View → Level → Level → ℕ
units_read v i l = only (is_above l i) (shared_CT v i l) + pick (leb i.0 v.cpus) 0 (units_divided v i l)
