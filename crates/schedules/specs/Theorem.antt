-- Theorem 1 of the report, with the demand as document 01 and request 3/12 have it: the bounds are bounds on response times. Over views, so that it does not matter how a table is held.
use Rattle.std.specs.Prelude.{ℕ, ◌*◌, ◌≤◌, ◌<◌, ◌≡◌}
use Rattle.table.specs.declared.Level.{Level}
use Rattle.table.specs.Limits.{max_resources}
use Rattle.theory.specs.View.{View, level, resource}
use Rattle.theory.specs.Demand.{all_CT, demand_of, units_read}
use Rattle.schedules.specs.Jobs.{JobSet, Generated}
use Rattle.schedules.specs.Schedule.{Schedule, KernelFact, UnderPIP, RespondsWithin}
use Rattle.schedules.specs.Wrong.{UnderPIPBut, OtherKernel, UnderOther, WrongDemand, wrong_demand}

-- "a constrained deadline sporadic task system": C ≤ D ≤ T; and at least one processor, no T of 0, lock times within C, and none without a request. An accepted table is one
pub record Constrained (v : View) : Type 0 where
  pub some : 1 ≤ v.cpus
  pub positive : (l : ℕ) → l < v.n → 1 ≤ v.T (level l)
  pub run : (l : ℕ) → l < v.n → v.C (level l) ≤ v.D (level l)
  pub deadline : (l : ℕ) → l < v.n → v.D (level l) ≤ v.T (level l)
  pub totals : (l : ℕ) → l < v.n → all_CT v (level l) ≤ v.C (level l)
  pub unused : (l r : ℕ) → l < v.n → r < max_resources → v.N (level l) (resource r) ≡ 0 → v.CT (level l) (resource r) ≡ 0

-- a table in k-ths of its time unit, so that an instant need not be a whole microsecond
abbrev pub finer : ℕ → View → View
finer k v =
    record {
      cpus = v.cpus;
      n = v.n;
      T = λ l. k * v.T l;
      C = λ l. k * v.C l;
      D = λ l. k * v.D l;
      N = v.N;
      c = λ l r. k * v.c l r;
      CT = λ l r. k * v.CT l r;
    }

-- a set of tasks whose demands have workloads of no task outside it: of all tasks, or of some that read no others
abbrev pub Closed : View → (ℕ → Type 0) → Type 0
Closed v X = (i l : ℕ) → i < v.n → X i → l < v.n → 1 ≤ units_read v (level i) (level l) → X l

-- for each of its tasks a length up to the deadline that covers its own demand
pub record Covers (demand : View → Level → ℕ → ℕ) (v : View) (X : ℕ → Type 0) (R : ℕ → ℕ) : Type 0 where
  pub low : (i : ℕ) → i < v.n → X i → 1 ≤ R i
  pub high : (i : ℕ) → i < v.n → X i → R i ≤ v.D (level i)
  pub covers : (i : ℕ) → i < v.n → X i → demand v (level i) (R i) ≤ R i

-- "an upper bound on the response time": of such tasks, in every such run, its instants being k-ths of the time unit, no job takes longer than the length of its task. It is said of any demand, of any sets of tasks and of any runs, to
-- compare the right ones with wrong ones
abbrev pub NoneLonger : (View → Level → ℕ → ℕ) → (View → (ℕ → Type 0) → Type 0) → (View → JobSet → Schedule → ℕ → Type 0) → Type 1
NoneLonger demand Tasks Run =
    (v : View) → Constrained v → (X : ℕ → Type 0) → Tasks v X → (R : ℕ → ℕ) → Covers demand v X R → (k : ℕ) → 1 ≤ k
    → (J : JobSet) → Generated (finer k v) J → (S : Schedule) (E : ℕ) → Run (finer k v) J S E → (i : ℕ) → i < v.n → X i → RespondsWithin J S E i (k * R i)

pub record Theorem1 : Type 1 where
  pub bounds : NoneLonger demand_of Closed UnderPIP
  -- where k is 1, the time unit is the table's
  pub whole : (v : View) → finer 1 v ≡ v
  -- none of the facts about the kernel can be left out, and on two other kinds of kernels bounds break;
  pub needed : (g : KernelFact) → NoneLonger demand_of Closed (UnderPIPBut g) → ⊥
  pub kernels : (o : OtherKernel) → NoneLonger demand_of Closed (UnderOther o) → ⊥
  -- nor can DB, S, O, F or L be left out, or the demand be smaller in the other ways of `WrongDemand`;
  pub terms : (d : WrongDemand) → NoneLonger (wrong_demand d) Closed UnderPIP → ⊥
  -- nor the tasks that are read: that a task itself has a bound is not enough
  pub all_read : NoneLonger demand_of (λ v X. Unit) UnderPIP → ⊥
