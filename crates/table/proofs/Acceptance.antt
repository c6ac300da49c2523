-- A table is accepted exactly if nothing is said against it.
-- Assumes nothing.
use Prim.Native.Nat.{ℕ, zero, suc, ◌+◌, ◌≤◌, ◌<◌}
use mathlib.Core.Path.{◌≡◌}
use mathlib.Core.Bool.{true}
use native.Mathlib.Nat.{le_refl, le_trans}
use native.Mathlib.Numerals.{add-one}
use native.Mathlib.Omega.{arith}
use borrow.Author.Tests.{leb-true, le-leb}
use lib.Dec.{leb}
use Rattle.basics.specs.Choice.{within}
use Rattle.basics.specs.Over.{sum_to}
use Rattle.basics.proofs.ChoiceLaws.{within_in, within_true}
use Rattle.basics.proofs.SumLaws.{sum_rises}
use Rattle.table.specs.declared.Task.{Task}
use Rattle.table.specs.declared.Table.{Table}
use Rattle.table.specs.declared.Fault.TheVariants.{OutOfRange, BadTimes, TooManyTasks, NoTask, AlphaMissing, AlphaRises}
use Rattle.std.specs.Prelude.{Ok}
use Rattle.table.specs.Limits.{max_cpus, max_tasks, max_resources, max_alpha}
use Rattle.table.specs.At.{task_at, pair_of, total_of}
use Rattle.table.specs.Faults.{unless}
use Rattle.table.specs.Rules.{times_in_range, times_in_order, all_or_none, may_follow, alpha_fault, pair_fault_of, pairs_fault, task_fault, alphas_to, last_alpha, task_fault_at, tasks_fault, table_fault, groups_in_range}
use Rattle.table.specs.Accepted.{GoodTimes, GoodTo, GoodTask, Accepted}
use Rattle.table.specs.Refusals.{RisesAt}
use Rattle.table.proofs.FirstLaws.{first_fine, then_fine, each_fine}
use Rattle.table.proofs.RuleFacts.{times_range_is, times_order_is}
use Rattle.table.proofs.GroupLaws.{groups_range_is}
use Rattle.table.proofs.AlphaLaws.{holds_unless, some_only_is, rises_is, all_or_none_reads, never_rises}
use Rattle.table.proofs.RuleLaws.{unless_fine, good_times, times_range, times_order, pair_good, pair_fine}

-- ---- one task

-- of a task that nothing is said against up to its first n resources, and the other way round
pub good_to : (place : ℕ) (x : Task) (n : ℕ) → GoodTimes x.period x.run x.deadline → x.alpha ≤ max_alpha
    → ((k : ℕ) → k < n → pair_fault_of place x k ≡ Ok tt) → GoodTo x n
unfolding sum_to
good_to place x n g a each = record { times = g; alpha_most = a; pair = λ k h. (pair_good place _ _ _ (each k h)).0; totals = go n each }
  where
    go : (n : ℕ) → ((k : ℕ) → k < n → pair_fault_of place x k ≡ Ok tt) → sum_to n (total_of x) ≤ x.run
    go zero each = omega arith
    go (suc k) each = rw add-one at (pair_good place (pair_of x k) (sum_to (k + 1) (total_of x)) x.run (each k (le_refl (suc k)))).1

pub to_fine : (place : ℕ) (x : Task) (n k : ℕ) → GoodTo x n → k < n → pair_fault_of place x k ≡ Ok tt
to_fine place x n k g h = pair_fine place (pair_of x k) _ _ (g.pair k h) (le_trans (sum_rises (k + 1) n (total_of x) (omega arith)) g.totals)

pub alpha_good : (place last A : ℕ) → alpha_fault place last A ≡ Ok tt → (A ≤ max_alpha) × (may_follow last A ≡ true)
unfolding alpha_fault
alpha_good place last A e =
    let f = then_fine (unless (leb A max_alpha) OutOfRange place) _ e in
    (leb-true _ _ (unless_fine _ OutOfRange place f.0), unless_fine _ AlphaRises place f.1)

pub alpha_fine : (place last A : ℕ) → A ≤ max_alpha → may_follow last A ≡ true → alpha_fault place last A ≡ Ok tt
unfolding alpha_fault
alpha_fine place last A h e = rw (le-leb A max_alpha h, e)

-- a task after alpha `last`, and the other way round
pub task_good : (place last : ℕ) (x : Task) → task_fault place last x ≡ Ok tt → GoodTask x × (may_follow last x.alpha ≡ true)
unfolding task_fault pairs_fault
task_good place last x e =
    let f = then_fine (unless (times_in_range x.period x.run x.deadline) OutOfRange place) _ e in
    let a = then_fine (alpha_fault place last x.alpha) _ f.1 in
    let o = then_fine (unless (times_in_order x.period x.run x.deadline) BadTimes place) _ a.1 in
    let r = (times_range_is x.period x.run x.deadline).0 (unless_fine _ OutOfRange place f.0) in
    let s = (times_order_is x.period x.run x.deadline).0 (unless_fine _ BadTimes place o.0) in
    let g = alpha_good place last x.alpha a.0 in
    (good_to place x max_resources (good_times r s) g.0 (each_fine max_resources (pair_fault_of place x) o.1), g.1)

pub task_fine : (place last : ℕ) (x : Task) → GoodTask x → may_follow last x.alpha ≡ true → task_fault place last x ≡ Ok tt
unfolding task_fault pairs_fault
task_fine place last x g e =
    rw (
      (times_range_is x.period x.run x.deadline).1 (times_range g.times),
      alpha_fine place last x.alpha g.alpha_most e,
      (times_order_is x.period x.run x.deadline).1 (times_order g.times),
    )
    (first_fine max_resources (pair_fault_of place x) (λ k h. to_fine place x max_resources k g h))

-- the task at a slot
pub good_at_lem : (t : Table) (i : ℕ) → task_fault_at t i ≡ Ok tt → GoodTask (task_at t i) × (RisesAt t i → ⊥)
good_at_lem t i e = let g = task_good _ (last_alpha t i) (task_at t i) e in (g.0, (holds_unless _ (rises_is t i)).0 g.1)

pub at_fine : (t : Table) (i : ℕ) → GoodTask (task_at t i) → (RisesAt t i → ⊥) → task_fault_at t i ≡ Ok tt
at_fine t i g n = task_fine _ (last_alpha t i) (task_at t i) g ((holds_unless _ (rises_is t i)).1 n)

-- ---- the table

pub fine_accepted : (t : Table) → table_fault t ≡ Ok tt → Accepted t
unfolding table_fault tasks_fault
fine_accepted t e =
    let a = then_fine (unless (leb 1 t.n) NoTask 0) _ e in
    let b = then_fine (unless (leb t.n max_tasks) TooManyTasks 0) _ a.1 in
    let c = then_fine (unless (within 1 max_cpus t.cpus) OutOfRange 0) _ b.1 in
    let m = within_true 1 max_cpus t.cpus (unless_fine _ OutOfRange 0 c.0) in
    let g = then_fine (unless (groups_in_range t.groups) OutOfRange 0) _ c.1 in
    let d = then_fine (unless (all_or_none (alphas_to t t.n) t.n) AlphaMissing 0) _ g.1 in
    let s = (all_or_none_reads t).0 ((holds_unless _ (some_only_is t)).0 (unless_fine _ AlphaMissing 0 d.0)) in
    let x : (i : ℕ) → i < t.n → GoodTask (task_at t i) × (RisesAt t i → ⊥) = λ i h. good_at_lem t i (each_fine t.n (task_fault_at t) d.1 i h) in
    record {
      tasks_least = leb-true _ _ (unless_fine _ NoTask 0 a.0);
      tasks_most = leb-true _ _ (unless_fine _ TooManyTasks 0 b.0);
      cpus_least = m.0;
      cpus_most = m.1;
      groups_most = (groups_range_is t).0 (unless_fine _ OutOfRange 0 g.0);
      all_or_none = s;
      never_rises = (never_rises t s).0 (λ i h. (x i h).1);
      task = λ i h. (x i h).0;
    }

pub accepted_fine : (t : Table) → Accepted t → table_fault t ≡ Ok tt
unfolding table_fault tasks_fault
accepted_fine t a =
    rw (
      le-leb 1 t.n a.tasks_least,
      le-leb t.n max_tasks a.tasks_most,
      within_in 1 max_cpus t.cpus a.cpus_least a.cpus_most,
      (groups_range_is t).1 a.groups_most,
      (holds_unless _ (some_only_is t)).1 ((all_or_none_reads t).1 a.all_or_none),
    )
    (first_fine t.n (task_fault_at t) (λ i h. at_fine t i (a.task i h) ((never_rises t a.all_or_none).1 a.never_rises i h)))
