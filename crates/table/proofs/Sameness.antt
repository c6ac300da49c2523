-- "The same" is an equivalence of tables, and the check cannot tell two tables apart that are the same. A table is the same with zeros past its nth task.
-- Assumes nothing.
use Prim.Native.Nat.{ℕ, zero, suc, ◌+◌, ◌≤◌}
use mathlib.Core.Path.{◌≡◌, refl, sym, ap, ◌∙◌}
use mathlib.Core.Bool.{not}
use native.Mathlib.Omega.{arith}
use borrow.Author.Tests.{lt-ltb}
use lib.Dec.{eqb, leb}
use Rattle.basics.specs.Over.{sum_to}
use Rattle.basics.proofs.SumLaws.{sum_eq}
use Rattle.basics.proofs.AllLaws.{all_eq}
use Rattle.basics.proofs.RowLaws.{row_at}
use Rattle.table.specs.declared.Pair.{Pair}
use Rattle.table.specs.declared.Task.{Task}
use Rattle.table.specs.declared.Table.{Table}
use Rattle.table.specs.Limits.{max_tasks, max_resources, max_group}
use Rattle.table.specs.Empty.{unused_pair}
use Rattle.table.specs.At.{no_task, task_at, group_at, pair_of, total_of, SameTask, Same}
use Rattle.table.specs.Faults.{first_fault}
use Rattle.table.specs.Rules.{groups_in_range, has_group, pair_fault_of, pairs_fault, task_fault, alphas_to, last_alpha, task_fault_at, tasks_fault, table_fault}
use Rattle.table.specs.Cleared.{cleared_task, cleared, ClearedSame}
use Rattle.table.proofs.Acceptance.{fine_accepted}
use Rattle.table.proofs.FirstLaws.{first_same}

pub same_refl : (a : Table) → Same a a
same_refl a =
    record {
      cpus = refl;
      n = refl;
      groups = λ k h. refl;
      tasks = λ i h. record { period = refl; run = refl; deadline = refl; alpha = refl; pairs = λ k l. refl };
    }

task_sym : (x y : Task) → SameTask x y → SameTask y x
task_sym x y s =
    record { period = sym s.period; run = sym s.run; deadline = sym s.deadline; alpha = sym s.alpha; pairs = λ k l. sym (s.pairs k l) }

pub same_sym : (a b : Table) → Same a b → Same b a
same_sym a b s =
    record { cpus = sym s.cpus; n = sym s.n; groups = λ k h. sym (s.groups k h); tasks = λ i h. task_sym _ _ (s.tasks i (rw s.n h)) }

task_trans : (x y z : Task) → SameTask x y → SameTask y z → SameTask x z
task_trans x y z s t =
    record {
      period = s.period ∙ t.period;
      run = s.run ∙ t.run;
      deadline = s.deadline ∙ t.deadline;
      alpha = s.alpha ∙ t.alpha;
      pairs = λ k l. s.pairs k l ∙ t.pairs k l;
    }

pub same_trans : (a b c : Table) → Same a b → Same b c → Same a c
same_trans a b c s t =
    record {
      cpus = s.cpus ∙ t.cpus;
      n = s.n ∙ t.n;
      groups = λ k h. s.groups k h ∙ t.groups k h;
      tasks = λ i h. task_trans _ _ _ (s.tasks i h) (t.tasks i (rw s.n at h));
    }

sum_same : (x y : Task) → SameTask x y → (n : ℕ) → n ≤ max_resources → sum_to n (total_of x) ≡ sum_to n (total_of y)
sum_same x y s n h = sum_eq n _ _ (λ k l. ap (λ (p : Pair). p.total) (s.pairs k (omega arith)))

pairs_same : (place : ℕ) (x y : Task) → SameTask x y → pairs_fault place x ≡ pairs_fault place y
unfolding pairs_fault
pairs_same place x y s =
    first_same max_resources (pair_fault_of place x) (pair_fault_of place y)
    (λ k h. rw (s.pairs k h, sum_same x y s (k + 1) (omega arith), s.run))

task_same : (place last : ℕ) (x y : Task) → SameTask x y → task_fault place last x ≡ task_fault place last y
unfolding task_fault
task_same place last x y s = rw (pairs_same place x y s, s.period, s.run, s.deadline, s.alpha)

last_same : (a b : Table) → Same a b → (i : ℕ) → i ≤ a.n → last_alpha a i ≡ last_alpha b i
unfolding last_alpha
last_same a b s zero h = refl
last_same a b s (suc i) h = rw (last_same a b s i (omega arith), (s.tasks i h).alpha)

given_same : (a b : Table) → Same a b → alphas_to a a.n ≡ alphas_to b b.n
given_same a b s = sum_eq a.n _ _ (λ i h. rw (s.tasks i h).alpha) ∙ ap (alphas_to b) s.n

groups_same : (a b : Table) → Same a b → groups_in_range a.groups ≡ groups_in_range b.groups
unfolding groups_in_range
groups_same a b s = all_eq max_resources _ _ (λ k h. ap (λ (g : ℕ). leb g max_group) (s.groups k h))

pub same_group : (a b : Table) → Same a b → has_group a.groups ≡ has_group b.groups
unfolding has_group
same_group a b s = ap not (all_eq max_resources _ _ (λ k h. ap (λ (g : ℕ). eqb g 0) (s.groups k h)))

pub same_fault : (a b : Table) → Same a b → table_fault a ≡ table_fault b
unfolding table_fault tasks_fault
same_fault a b s =
    let e : first_fault a.n (task_fault_at a) ≡ first_fault b.n (task_fault_at b) =
    first_same a.n (task_fault_at a) (task_fault_at b) (λ i h. rw (last_same a b s i (omega arith)) (task_same (i + 1) (last_alpha b i) _ _ (s.tasks i h)))
    ∙ ap (λ (n : ℕ). first_fault n (task_fault_at b)) s.n in
    rw (e, given_same a b s, groups_same a b s, s.cpus, s.n)

-- a table with zeros past the nth task is the same
pub cleared_same : ClearedSame
unfolding cleared cleared_task
cleared_same t e =
    record {
      cpus = refl;
      n = refl;
      groups = λ k h. sym (row_at max_resources k (group_at t) 0 h);
      tasks = λ i h.
          rw (row_at max_tasks i _ no_task (omega (arith, (fine_accepted t e).tasks_most)), lt-ltb i t.n h)
          (record { period = refl; run = refl; deadline = refl; alpha = refl; pairs = λ k l. sym (row_at max_resources k (pair_of (task_at t i)) unused_pair l) });
    }
