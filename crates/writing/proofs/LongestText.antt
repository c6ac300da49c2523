-- No text of an accepted table is longer than `max_text`, and one is as long (specs/Longest.antt).
-- Assumes nothing.
use Prim.Native.Nat.{ℕ, suc, ◌+◌, ◌*◌, ◌≤◌}
use mathlib.Core.Path.{◌≡◌, refl}
use mathlib.Core.Bool.{Bool, true, false}
use mathlib.Core.List.{List, [], ◌++◌}
use native.Mathlib.Decide.{ℕ_discrete}
use native.Mathlib.Omega.{arith}
use lib.ListN.{length, get_or, replicate, length-append}
use lib.Dec.{ltb, lit≤}
use borrow.Author.Tests.{ltb-true, ltb-false}
use Rattle.basics.specs.Choice.{pick, only}
use Rattle.basics.specs.Text.{bytes}
use Rattle.basics.specs.Over.{sum_to, count_to, all_to, first_to, join_to}
use Rattle.basics.proofs.SumLaws.{sum_le, sum_add, sum_scale}
use Rattle.basics.proofs.JoinLaws.{join_length, join_bound}
use Rattle.table.specs.declared.Pair.{Pair}
use Rattle.table.specs.declared.Task.{Task}
use Rattle.table.specs.declared.Table.{Table}
use Rattle.std.specs.Prelude.{Ok}
use Rattle.table.specs.Limits.{max_resources, max_group, max_alpha}
use Rattle.table.specs.At.{a_pair, a_task, with_alpha, a_table, with_groups, task_at, pair_of, total_of}
use Rattle.table.specs.Faults.{first_fault}
use Rattle.table.specs.Rules.{times_in_range, times_in_order, groups_in_range, alpha_fault, is_unused, used_in_range, pair_in_range, totals_fit, pair_fault, pairs_fault, task_fault, last_alpha, tasks_fault, table_fault}
use Rattle.table.specs.Accepted.{GoodTask, Accepted}
use Rattle.table.proofs.RuleLaws.{PairBounds, pair_bounds}
use Rattle.table.proofs.Acceptance.{fine_accepted}
use Rattle.put.specs.Text.{width, count_text, time_text}
use Rattle.put.proofs.TextLaws.{count_length, width_few}
use Rattle.put.proofs.TimeLaws.{time_few}
use Rattle.writing.specs.Write.{use_text, pair_text, times_text, alpha_text, own_text, task_text, group_text, member_text, head_text, text_of}
use Rattle.writing.specs.Longest.{max_cpus_text, max_task_text, max_alpha_text, max_use_text, two_digits, max_groups_text, max_long, max_uses_text, max_text, LongestText}
use Rattle.writing.proofs.WriteLaws.{use_length, times_length, counted_length, alpha_none, alpha_some, group_length, cpus_text, cpus_length, head_of}

-- ---- the `use` lines of a task

-- whether CT of resource k + 1 is above 1,000 ms
abbrev long : Task → ℕ → Bool
long x k = ltb 1_000_000 (total_of x k)

-- 26 bytes besides K, and two more where CT is above 1,000 ms; where it is not, c is not either
use_few : (K : ℕ) (p : Pair) (b : Bool) → ltb 1_000_000 p.total ≡ b → PairBounds p → length (use_text K p) ≤ 26 + width K + 2 * only b 1
use_few K p b e g =
    omega (arith, use_length K p, count_length K, count_length p.requests, width_few p.requests 4 (lit≤ tt) (omega arith), go b e)
  where
    go : (b : Bool) → ltb 1_000_000 p.total ≡ b → length (time_text p.longest) + length (time_text p.total) ≤ 14 + 2 * only b 1
    go true e = omega (arith, time_few p.longest 4 (lit≤ tt) (omega arith), time_few p.total 4 (lit≤ tt) (omega arith))
    go false e =
        let h = ltb-false 1_000_000 p.total e in
        omega (arith, time_few p.longest 3 (lit≤ tt) (omega arith), time_few p.total 3 (lit≤ tt) (omega arith))

pair_few : (x : Task) (k : ℕ) → PairBounds (pair_of x k) → length (pair_text x k) ≤ 26 + width (suc k) + 2 * only (long x k) 1
unfolding pair_text
pair_few x k g = go (ltb 0 (pair_of x k).requests)
  where
    go : (u : Bool) → length (pick u (use_text (suc k) (pair_of x k)) []) ≤ 26 + width (suc k) + 2 * only (long x k) 1
    go true = use_few (suc k) (pair_of x k) (long x k) refl g
    go false = omega arith

-- each of those takes more than 1,000 ms of the sum, so there are few
long_takes : (x : Task) (k : ℕ) → 1_000_001 * only (long x k) 1 ≤ total_of x k
long_takes x k = go (long x k) refl
  where
    go : (b : Bool) → ltb 1_000_000 (total_of x k) ≡ b → 1_000_001 * only b 1 ≤ total_of x k
    go true e = let h = ltb-true 1_000_000 (total_of x k) e in omega arith
    go false e = omega arith

long_few : (x : Task) → GoodTask x → count_to max_resources (long x) ≤ max_long
long_few x g =
    let one : ℕ → ℕ = λ k. only (long x k) 1 in
    omega (arith, g.times, g.totals, sum_scale max_resources 1_000_001 one, sum_le max_resources (λ k. 1_000_001 * one k) (total_of x) (λ k h. long_takes x k))

short_lines : sum_to max_resources (λ k. 26 + width (suc k)) ≡ max_resources * max_use_text + two_digits
unfolding sum_to first_to width
short_lines = refl

uses_few : (x : Task) → GoodTask x → length (join_to max_resources (pair_text x)) ≤ max_uses_text
uses_few x g =
    let one : ℕ → ℕ = λ k. only (long x k) 1 in
    let short : ℕ → ℕ = λ k. 26 + width (suc k) in
    omega (
      arith,
      join_length max_resources (pair_text x),
      sum_le max_resources (λ k. length (pair_text x k)) (λ k. short k + 2 * one k) (λ k h. pair_few x k (pair_bounds (pair_of x k) (g.pair k h))),
      sum_add max_resources short (λ k. 2 * one k),
      sum_scale max_resources 2 one,
      short_lines,
      long_few x g,
    )

-- ---- the lines of a task, and of a table

-- 7 bytes besides A
alpha_few : (A : ℕ) → A ≤ max_alpha → length (alpha_text A) ≤ max_alpha_text
alpha_few A h = go (ℕ_discrete A 0)
  where
    go : Dec (A ≡ 0) → length (alpha_text A) ≤ max_alpha_text
    go (yes e) = rw (alpha_none A e) (omega arith)
    go (no e) = rw (alpha_some A e) (omega (arith, counted_length (bytes "alpha") A, count_length A, width_few A 2 (lit≤ tt) (omega arith)))

task_few : (x : Task) → GoodTask x → length (task_text x) ≤ max_task_text + max_alpha_text + max_uses_text
unfolding task_text
task_few x g =
    omega (
      arith,
      g.times,
      length-append (own_text x) (join_to max_resources (pair_text x)),
      length-append (times_text x) (alpha_text x.alpha),
      alpha_few x.alpha g.alpha_most,
      times_length x,
      time_few x.period 4 (lit≤ tt) (omega arith),
      time_few x.run 4 (lit≤ tt) (omega arith),
      time_few x.deadline 4 (lit≤ tt) (omega arith),
      uses_few x g,
    )

-- 8 bytes besides G, which has at most two digits, and K
member_few : (groups : List ℕ) (k : ℕ) → get_or groups k 0 ≤ max_group → length (member_text groups k) ≤ 10 + width (suc k)
unfolding member_text
member_few groups k h = go (ltb 0 (get_or groups k 0))
  where
    G : ℕ
    G = get_or groups k 0

    go : (b : Bool) → length (pick b (group_text G (suc k)) []) ≤ 10 + width (suc k)
    go true = omega (arith, group_length G (suc k), count_length G, count_length (suc k), width_few G 2 (lit≤ tt) (omega arith))
    go false = omega arith

group_lines : sum_to max_resources (λ k. 10 + width (suc k)) ≡ max_groups_text
unfolding sum_to first_to width
group_lines = refl

head_few : (t : Table) → Accepted t → length (head_of t) ≤ max_cpus_text + max_groups_text
unfolding head_text
head_few t a =
    omega (
      arith,
      length-append (cpus_text t.cpus) (join_to max_resources (member_text t.groups)),
      cpus_length t.cpus,
      count_length t.cpus,
      width_few t.cpus 2 (lit≤ tt) (omega (arith, a.cpus_most)),
      join_length max_resources (member_text t.groups),
      sum_le max_resources (λ k. length (member_text t.groups k)) (λ k. 10 + width (suc k)) (λ k h. member_few t.groups k (a.groups_most k h)),
      group_lines,
    )

text_most : (t : Table) → table_fault t ≡ Ok tt → length (text_of t) ≤ max_text
unfolding text_of
text_most t e =
    let a = fine_accepted t e in
    omega (
      arith,
      a.tasks_most,
      length-append (head_of t) (join_to t.n (λ i. task_text (task_at t i))),
      head_few t a,
      join_bound t.n (max_task_text + max_alpha_text + max_uses_text) (λ i. task_text (task_at t i)) (λ i h. task_few (task_at t i) (a.task i h)),
    )

-- ---- a table with the longest text

abbrev longest_task : Task
longest_task = with_alpha 64 (a_task 9_999_999 9_999_999 9_999_999 (replicate 9 (a_pair 1_000 1_000_001 1_000_001) ++ replicate 7 (a_pair 1_000 100_001 100_001)))

abbrev longest_table : Table
longest_table = with_groups (replicate 16 16) (a_table 64 32 (replicate 32 longest_task))

longest_fine : table_fault longest_table ≡ Ok tt
unfolding sum_to all_to first_fault times_in_range times_in_order groups_in_range alpha_fault is_unused used_in_range pair_in_range totals_fit pair_fault pairs_fault task_fault last_alpha tasks_fault table_fault
longest_fine = refl

text_reached : length (text_of longest_table) ≡ max_text
unfolding first_to width count_text time_text join_to use_text pair_text alpha_text task_text group_text member_text head_text text_of
text_reached = refl

pub longest_text : LongestText
longest_text = record { most = text_most; reached = (longest_table, longest_fine, text_reached) }
