-- Where the figures of a resource stand, the merged pairs by that and without slots, and what holds of those of an accepted table.
-- Assumes nothing.
use Prim.Native.Nat.{ℕ, ◌≤◌, ◌<◌}
use mathlib.Core.Path.{◌≡◌, refl, sym, ap, ◌∙◌}
use mathlib.Core.Bool.{Bool, true, false}
use mathlib.Core.List.{List}
use native.Mathlib.Decide.{ℕ_discrete}
use native.Mathlib.Nat.{le_trans}
use native.Mathlib.Omega.{arith}
use borrow.Author.Tests.{eqb-true, eqb-false, eq-eqb, ne_eqb, lt-ltb}
use lib.Dec.{eqb, ltb}
use lib.ListN.{get_or}
use Rattle.basics.specs.Choice.{pick, only}
use Rattle.basics.specs.Over.{sum_to, max_to}
use Rattle.basics.proofs.ChoiceLaws.{only_below}
use Rattle.basics.proofs.SumLaws.{sum_eq, sum_bound, sum_some, sum_single, sum_slots}
use Rattle.basics.proofs.MaxLaws.{max_eq, max_bound, max_single}
use Rattle.basics.proofs.FirstIndexLaws.{First, first_is, first_by}
use Rattle.basics.proofs.OnceLaws.{first_below}
use Rattle.basics.proofs.RowLaws.{row_at}
use Rattle.table.specs.declared.Pair.{Pair}
use Rattle.table.specs.declared.Task.{Task}
use Rattle.table.specs.declared.Table.{Table}
use Rattle.std.specs.Prelude.{Ok}
use Rattle.table.specs.Limits.{max_tasks, max_resources, max_time, max_count}
use Rattle.table.specs.Empty.{unused_pair, empty_task}
use Rattle.table.specs.At.{no_task, a_pair, task_at, group_at, NoGroup, pair_of, pair_at, total_of}
use Rattle.table.specs.Rules.{has_group, table_fault}
use Rattle.table.specs.Accepted.{GoodTask}
use Rattle.table.proofs.Acceptance.{fine_accepted}
use Rattle.table.proofs.GroupLaws.{no_group_is}
use Rattle.table.proofs.RuleLaws.{pair_bounds}
use Rattle.theory.specs.Merge.{slot_of, part_at, merged_pair, merged_task, grouped_tasks, merged_tasks, merged}
use Rattle.theory.specs.Groups.{MergedAgrees, TaskInBounds, InBounds}

-- a pair by its figures
pair_is : {a b : Pair} → a.requests ≡ b.requests → a.longest ≡ b.longest → a.total ≡ b.total → a ≡ b
pair_is p q r = λ j. record { requests = p j; longest = q j; total = r j }

-- ---- where the figures of a resource stand

module _ (g : List ℕ) where
  abbrev G : ℕ → ℕ
  G j = get_or g j 0

  pub slot_alone : (j : ℕ) → G j ≡ 0 → slot_of g j ≡ j
  unfolding slot_of
  slot_alone j e = rw (eq-eqb (G j) 0 e)

  pub slot_group : (j : ℕ) → (G j ≡ 0 → ⊥) → First max_resources (λ k. eqb (G k) (G j)) (slot_of g j)
  unfolding slot_of
  slot_group j d = rw (ne_eqb (G j) 0 d) (first_is max_resources (λ k. eqb (G k) (G j)))

  pub slot_below : (j : ℕ) → j < max_resources → slot_of g j < max_resources
  unfolding slot_of
  slot_below j h = go (ℕ_discrete (G j) 0)
    where
      go : Dec (G j ≡ 0) → slot_of g j < max_resources
      go (yes e) = rw (eq-eqb (G j) 0 e) h
      go (no d) = rw (ne_eqb (G j) 0 d) (first_below max_resources j (λ k. eqb (G k) (G j)) h (eq-eqb (G j) (G j) refl))

  -- the first resource of a group
  pub slot_found : (j k : ℕ) → (G j ≡ 0 → ⊥) → k < max_resources → G k ≡ G j → ((i : ℕ) → i < k → G i ≡ G j → ⊥) → slot_of g j ≡ k
  unfolding slot_of
  slot_found j k d h e before =
      rw (ne_eqb (G j) 0 d)
      (first_by max_resources (λ i. eqb (G i) (G j)) k
      (record { upto = omega arith; clear = λ i m. ne_eqb (G i) (G j) (before i m); found = λ _. eq-eqb (G k) (G j) e }))

  -- the group of the resource there is its own
  slot_same : (j : ℕ) → j < max_resources → G (slot_of g j) ≡ G j
  slot_same j h = go (ℕ_discrete (G j) 0)
    where
      go : Dec (G j ≡ 0) → G (slot_of g j) ≡ G j
      go (yes e) = ap G (slot_alone j e)
      go (no d) = eqb-true _ _ ((slot_group j d).found (slot_below j h))

  -- at the slot of a resource without a group: its own alone
  slot_own : (j k : ℕ) → j < max_resources → G k ≡ 0 → eqb (slot_of g j) k ≡ eqb j k
  slot_own j k h e = go (ℕ_discrete (G j) 0)
    where
      go : Dec (G j ≡ 0) → eqb (slot_of g j) k ≡ eqb j k
      go (yes z) = rw (slot_alone j z)
      go (no d) = ne_eqb _ _ (λ q. d (sym (slot_same j h) ∙ ap G q ∙ e)) ∙ sym (ne_eqb j k (λ q. d (ap G q ∙ e)))

  -- at that of the first of a group: those of the group
  slot_first : (j k : ℕ) → j < max_resources → k < max_resources → 1 ≤ G k → ((i : ℕ) → i < k → G i ≡ G k → ⊥) → eqb (slot_of g j) k ≡ eqb (G j) (G k)
  slot_first j k h l some before = go (ℕ_discrete (G j) (G k))
    where
      is : G j ≡ G k → slot_of g j ≡ k
      is e = slot_found j k (λ z. omega arith) l (sym e) (λ i m q. before i m (q ∙ e))

      go : Dec (G j ≡ G k) → eqb (slot_of g j) k ≡ eqb (G j) (G k)
      go (yes e) = eq-eqb _ _ (is e) ∙ sym (eq-eqb _ _ e)
      go (no d) = ne_eqb _ _ (λ q. d (sym (slot_same j h) ∙ ap G q)) ∙ sym (ne_eqb _ _ d)

  -- at that of another of the group: none
  slot_other : (i j k : ℕ) → j < max_resources → 1 ≤ G k → i < k → G i ≡ G k → eqb (slot_of g j) k ≡ false
  slot_other i j k h some l e = ne_eqb _ _ (λ q. go q (ℕ_discrete (G j) 0))
    where
      go : slot_of g j ≡ k → Dec (G j ≡ 0) → ⊥
      go q (yes z) = let a : G k ≡ G j = ap G (sym q) ∙ slot_same j h in omega arith
      go q (no d) = eqb-false _ _ ((slot_group j d).clear i (rw q l)) (e ∙ ap G (sym q) ∙ slot_same j h)

  -- ---- the pair at a slot

  -- by a test that says which resources have their figures there
  by_test : (x : Task) (k : ℕ) (p : ℕ → Bool) → ((j : ℕ) → j < max_resources → eqb (slot_of g j) k ≡ p j)
      → merged_pair g x k
      ≡ a_pair (sum_to max_resources (λ j. only (p j) (pair_of x j).requests)) (max_to max_resources (λ j. only (p j) (pair_of x j).longest)) (sum_to max_resources (λ j. only (p j) (total_of x j)))
  unfolding merged_pair
  by_test x k p e =
      pair_is (sum_eq max_resources _ _ (λ j h. ap (λ (b : Bool). only b (pair_of x j).requests) (e j h)))
      (max_eq max_resources _ _ (λ j h. ap (λ (b : Bool). only b (pair_of x j).longest) (e j h)))
      (sum_eq max_resources _ _ (λ j h. ap (λ (b : Bool). only b (total_of x j)) (e j h)))

  one_alone : (k : ℕ) (f : ℕ → ℕ) (j : ℕ) → only (eqb j k) (f j) ≡ only (eqb k j) (f k)
  one_alone k f j = go (ℕ_discrete j k)
    where
      go : Dec (j ≡ k) → only (eqb j k) (f j) ≡ only (eqb k j) (f k)
      go (yes e) = rw (eq-eqb j k e, eq-eqb k j (sym e)) (ap f e)
      go (no d) = rw (ne_eqb j k d, ne_eqb k j (λ q. d (sym q)))

  pub pair_alone : (x : Task) (k : ℕ) → k < max_resources → G k ≡ 0 → merged_pair g x k ≡ pair_of x k
  pair_alone x k h e =
      by_test x k (λ j. eqb j k) (λ j l. slot_own j k l e)
      ∙ pair_is (sum_eq max_resources _ _ (λ j _. one_alone k (λ j. (pair_of x j).requests) j) ∙ sum_single max_resources k (pair_of x k).requests h)
      (max_eq max_resources _ _ (λ j _. one_alone k (λ j. (pair_of x j).longest) j) ∙ max_single max_resources k (pair_of x k).longest h)
      (sum_eq max_resources _ _ (λ j _. one_alone k (total_of x) j) ∙ sum_single max_resources k (total_of x k) h)

  none_sum : (f : ℕ → ℕ) → sum_to max_resources (λ j. only false (f j)) ≡ 0
  none_sum f = omega (arith, sum_bound max_resources 0 (λ j. only false (f j)) (λ j h. omega arith))

  none_largest : (f : ℕ → ℕ) → max_to max_resources (λ j. only false (f j)) ≡ 0
  none_largest f = omega (arith, max_bound max_resources 0 (λ j. only false (f j)) (λ j h. omega arith))

  pair_other : (x : Task) (i k : ℕ) → 1 ≤ G k → i < k → G i ≡ G k → merged_pair g x k ≡ unused_pair
  pair_other x i k some l e =
      by_test x k (λ j. false) (λ j h. slot_other i j k h some l e)
      ∙ pair_is (none_sum (λ j. (pair_of x j).requests)) (none_largest (λ j. (pair_of x j).longest)) (none_sum (total_of x))

  -- at a slot a task has units where it has requests, and only there, if that is so of each of its pairs
  pub used_merged : (x : Task) (k : ℕ) → ((j : ℕ) → j < max_resources → ltb 0 (pair_of x j).requests ≡ ltb 0 (total_of x j))
      → ltb 0 (merged_pair g x k).requests ≡ ltb 0 (merged_pair g x k).total
  unfolding merged_pair
  used_merged x k each = sum_some max_resources (part_at g k (λ j. (pair_of x j).requests)) (part_at g k (total_of x)) (λ j h. only_test (eqb (slot_of g j) k) _ _ (each j h))
    where
      only_test : (b : Bool) (x y : ℕ) → ltb 0 x ≡ ltb 0 y → ltb 0 (only b x) ≡ ltb 0 (only b y)
      only_test true x y e = e
      only_test false x y e = refl

  -- the pairs of all slots together ask for what the resources ask for
  pub sum_merged : (f : ℕ → ℕ) → sum_to max_resources (λ k. sum_to max_resources (part_at g k f)) ≡ sum_to max_resources f
  sum_merged f = sum_slots max_resources max_resources (slot_of g) f slot_below

-- where the figures of each resource stand at one slot in both, pairs that are the same are merged alike
pub pair_alike : (g h : List ℕ) (x y : Task) (k : ℕ) → ((j : ℕ) → j < max_resources → slot_of g j ≡ slot_of h j) → ((j : ℕ) → j < max_resources → pair_of x j ≡ pair_of y j)
    → merged_pair g x k ≡ merged_pair h y k
unfolding merged_pair
pair_alike g h x y k slots same =
    pair_is (sum_eq max_resources _ _ (λ j l i. only (eqb (slots j l i) k) (same j l i).requests))
    (max_eq max_resources _ _ (λ j l i. only (eqb (slots j l i) k) (same j l i).longest))
    (sum_eq max_resources _ _ (λ j l i. only (eqb (slots j l i) k) (same j l i).total))

-- ---- a table: its merged pairs, whether it has groups or not

module _ (t : Table) where
  -- "Without groups": its tasks as they are
  pub none_tasks : NoGroup t → merged_tasks t ≡ t.tasks
  unfolding merged_tasks
  none_tasks z = rw ((no_group_is t).1 z)

  -- a task: its times and alpha as they are, and its merged pairs
  pub record MergedTask (x y : Task) : Type 0 where
    pub period : y.period ≡ x.period
    pub run : y.run ≡ x.run
    pub deadline : y.deadline ≡ x.deadline
    pub alpha : y.alpha ≡ x.alpha
    pub pairs : (k : ℕ) → k < max_resources → pair_of y k ≡ merged_pair t.groups x k

  pub merged_task_lem : (i : ℕ) → i < t.n → i < max_tasks → MergedTask (task_at t i) (task_at (merged t) i)
  unfolding merged_tasks grouped_tasks merged_task
  merged_task_lem i h l = go (has_group t.groups) refl
    where
      go : (b : Bool) → has_group t.groups ≡ b → MergedTask (task_at t i) (task_at (merged t) i)
      go true e =
          rw (e, row_at max_tasks i (λ i. pick (ltb i t.n) (merged_task t.groups (task_at t i)) empty_task) no_task l, lt-ltb i t.n h)
          (record { period = refl; run = refl; deadline = refl; alpha = refl; pairs = λ k q. row_at max_resources k (merged_pair t.groups (task_at t i)) unused_pair q })
      go false e =
          rw e
          (record {
            period = refl;
            run = refl;
            deadline = refl;
            alpha = refl;
            pairs = λ k q. sym (pair_alone t.groups (task_at t i) k q ((no_group_is t).0 e k q));
          })

  pub merged_pair_lem : (i k : ℕ) → i < t.n → i < max_tasks → k < max_resources → pair_at (merged t) i k ≡ merged_pair t.groups (task_at t i) k
  merged_pair_lem i k h l q = (merged_task_lem i h l).pairs k q

-- ---- without slots

pub merged_agrees : MergedAgrees
merged_agrees t i e h =
    let most : i < max_tasks = omega (arith, (fine_accepted t e).tasks_most) in
    let m = merged_task_lem t i h most in
    record {
      period = m.period;
      run = m.run;
      deadline = m.deadline;
      first = λ k q some before. merged_pair_lem t i k h most q ∙ by_test t.groups (task_at t i) k (λ j. eqb (group_at t j) (group_at t k)) (λ j l. slot_first t.groups j k l q some before);
      other = λ j k q some l same. merged_pair_lem t i k h most q ∙ pair_other t.groups (task_at t i) j k some l same;
      alone = λ k q z. merged_pair_lem t i k h most q ∙ pair_alone t.groups (task_at t i) k q z;
    }

-- ---- what holds of the merged pairs of an accepted table

module _ (t : Table) (x y : Task) (m : MergedTask t x y) (g : GoodTask x) where
  bounds_task : TaskInBounds y
  unfolding merged_pair
  bounds_task =
      record {
        times = rw (m.period, m.run, m.deadline) g.times;
        alpha_most = rw m.alpha g.alpha_most;
        requests = omega (
          arith,
          sum_eq max_resources (λ k. (pair_of y k).requests) (λ k. (merged_pair t.groups x k).requests) (λ k q. ap (λ (p : Pair). p.requests) (m.pairs k q)),
          sum_merged t.groups (λ j. (pair_of x j).requests),
          sum_bound max_resources max_count (λ j. (pair_of x j).requests) (λ j q. (pair_bounds (pair_of x j) (g.pair j q)).requests_most),
        );
        longest = λ k q.
            rw (m.pairs k q)
            (max_bound max_resources max_time (part_at t.groups k (λ j. (pair_of x j).longest))
            (λ j l. le_trans (only_below (eqb (slot_of t.groups j) k) _) (let b = pair_bounds (pair_of x j) (g.pair j l) in omega (arith, b.longest_total, b.total_most))));
        totals = omega (
          arith,
          sum_eq max_resources (total_of y) (λ k. (merged_pair t.groups x k).total) (λ k q. ap (λ (p : Pair). p.total) (m.pairs k q)),
          sum_merged t.groups (total_of x),
          g.totals,
          m.run,
        );
      }

pub merged_bounds : (t : Table) → table_fault t ≡ Ok tt → InBounds (merged t)
merged_bounds t e =
    let a = fine_accepted t e in
    record {
      tasks_most = a.tasks_most;
      cpus_least = a.cpus_least;
      cpus_most = a.cpus_most;
      task = λ i h. bounds_task t (task_at t i) (task_at (merged t) i) (merged_task_lem t i h (omega (arith, a.tasks_most))) (a.task i h);
    }
