-- What the views of merged pairs have: what the check leaves of them; that they do not read alpha, nor the numbers of groups; and that they are no easier where the pairs as typed are.
-- Assumes nothing.
use Prim.Native.Nat.{ℕ, ◌≤◌, ◌<◌}
use mathlib.Core.Path.{◌≡◌, refl, sym, ap, ◌∙◌}
use mathlib.Core.Bool.{Bool, true, false, ◌&&◌, ◌||◌}
use mathlib.Core.Logic.{◌⊎◌, inl, inr}
use native.Mathlib.Decide.{ℕ_discrete, dec_lt}
use native.Mathlib.Nat.{le_trans}
use native.Mathlib.Omega.{arith}
use borrow.Author.Tests.{eqb-true, eqb-false, eq-eqb, ne_eqb, lt-ltb, le-ltb}
use lib.Dec.{eqb, ltb}
use Rattle.basics.specs.Choice.{only}
use Rattle.basics.specs.Over.{first_to}
use Rattle.basics.proofs.ChoiceLaws.{only_le}
use Rattle.basics.proofs.SumLaws.{sum_le, sum_eq, sum_some}
use Rattle.basics.proofs.MaxLaws.{max_le}
use Rattle.basics.proofs.FirstIndexLaws.{First, first_by, first_eq}
use Rattle.table.specs.declared.Level.{Level}
use Rattle.table.specs.declared.Pair.{Pair}
use Rattle.table.specs.declared.Task.{Task}
use Rattle.table.specs.declared.Table.{Table}
use Rattle.std.specs.Prelude.{Ok}
use Rattle.table.specs.Limits.{max_tasks, max_resources}
use Rattle.table.specs.Empty.{unused_pair}
use Rattle.table.specs.At.{task_at, group_at, pair_of, pair_at, total_of, NoGroup}
use Rattle.table.specs.Rules.{table_fault}
use Rattle.table.specs.Accepted.{GoodPair, Accepted}
use Rattle.table.proofs.Acceptance.{fine_accepted}
use Rattle.theory.specs.View.{level, uses}
use Rattle.theory.specs.Demand.{all_CT}
use Rattle.theory.specs.Merge.{slot_of, merged_pair, merged}
use Rattle.theory.specs.Tables.{view_of, merged_view}
use Rattle.theory.proofs.MergeLaws.{slot_alone, slot_group, slot_below, used_merged, sum_merged, pair_alike, MergedTask, none_tasks, merged_task_lem}
use Rattle.promises.specs.NoEasier.{EachPair, NoEasier}
use Rattle.promises.specs.Reads.{Unchanged}
use Rattle.promises.specs.Groups.{together, EqualGroups}

-- ---- without groups

pub without : (t : Table) → NoGroup t → merged_view t ≡ view_of t
without t z = let e = none_tasks t z in λ j. view_of (record { cpus = t.cpus; n = t.n; groups = t.groups; tasks = e j })

-- ---- what the check leaves

-- a pair has units where it is in use, and only there
pair_test : (p : Pair) → (p ≡ unused_pair) ⊎ GoodPair p → ltb 0 p.requests ≡ ltb 0 p.total
pair_test p (inl e) = rw e
pair_test p (inr g) = lt-ltb 0 _ g.requests_least ∙ sym (lt-ltb 0 _ (le_trans g.longest_least g.longest_total))

module _ (t : Table) (e : table_fault t ≡ Ok tt) where
  a : Accepted t
  a = fine_accepted t e

  pub task_merged : (l : ℕ) → l < t.n → MergedTask t (task_at t l) (task_at (merged t) l)
  task_merged l h = merged_task_lem t l h (omega (arith, a.tasks_most))

  pub used_test : (l k : ℕ) → l < t.n → k < max_resources → ltb 0 (pair_at (merged t) l k).requests ≡ ltb 0 (pair_at (merged t) l k).total
  used_test l k h q =
      let m = (task_merged l h).pairs k q in
      ap (λ (p : Pair). ltb 0 p.requests) m
      ∙ used_merged t.groups (task_at t l) k (λ j r. pair_test (pair_at t l j) ((a.task l h).pair j r))
      ∙ ap (λ (p : Pair). ltb 0 p.total) (sym m)

  -- all CT of a task together, as typed
  pub all_merged : (l : ℕ) → l < t.n → all_CT (merged_view t) (level l) ≡ all_CT (view_of t) (level l)
  unfolding all_CT merged_pair
  all_merged l h =
      sum_eq max_resources _ (λ k. (merged_pair t.groups (task_at t l) k).total) (λ k q. ap (λ (p : Pair). p.total) ((task_merged l h).pairs k q))
      ∙ sum_merged t.groups (total_of (task_at t l))

-- ---- two tables whose resources stand at the same slots, and whose tasks are the same but for alpha

pub record AlikeTask (x y : Task) : Type 0 where
  pub period : y.period ≡ x.period
  pub run : y.run ≡ x.run
  pub deadline : y.deadline ≡ x.deadline
  pub pairs : (k : ℕ) → k < max_resources → pair_of y k ≡ pair_of x k

module _ (a b : Table) (cpus : b.cpus ≡ a.cpus) (n : b.n ≡ a.n) (tasks : (l : ℕ) → l < a.n → AlikeTask (task_at a l) (task_at b l))
    (slots : (j : ℕ) → j < max_resources → slot_of b.groups j ≡ slot_of a.groups j)
    (past : (l : ℕ) → max_tasks ≤ l → l < a.n → AlikeTask (task_at (merged a) l) (task_at (merged b) l)) where
  -- their merged pairs are the same
  alike_merged : (l : ℕ) → l < a.n → AlikeTask (task_at (merged a) l) (task_at (merged b) l)
  alike_merged l h = go (dec_lt l max_tasks)
    where
      go : Dec (l < max_tasks) → AlikeTask (task_at (merged a) l) (task_at (merged b) l)
      go (no d) = past l (omega arith) h
      go (yes d) =
          let x = merged_task_lem a l h d in
          let y = merged_task_lem b l (rw n h) d in
          let s = tasks l h in
          record {
            period = y.period ∙ s.period ∙ sym x.period;
            run = y.run ∙ s.run ∙ sym x.run;
            deadline = y.deadline ∙ s.deadline ∙ sym x.deadline;
            pairs = λ k q. y.pairs k q ∙ pair_alike b.groups a.groups (task_at b l) (task_at a l) k slots s.pairs ∙ sym (x.pairs k q);
          }

  pub alike_unchanged : (runs : Level → Type 0) → Unchanged (λ l. Unit) runs (merged_view a) (merged_view b)
  alike_unchanged runs =
      record {
        cpus = cpus;
        n = n;
        T = λ l h x. (alike_merged l h).period;
        C = λ l h x. (alike_merged l h).run;
        D = λ l h x. (alike_merged l h).deadline;
        N = λ l k h q x. ap (λ (p : Pair). p.requests) ((alike_merged l h).pairs k q);
        c = λ l k h q x. ap (λ (p : Pair). p.longest) ((alike_merged l h).pairs k q);
        CT = λ l k h q x. ap (λ (p : Pair). p.total) ((alike_merged l h).pairs k q);
      }

-- ---- who is together decides at which slot the figures of a resource stand

slot_together : (t : Table) (j : ℕ) → j < max_resources → slot_of t.groups j ≡ first_to max_resources (together t j)
slot_together t j h = sym (first_by max_resources (together t j) (slot_of t.groups j) (go (ℕ_discrete (group_at t j) 0)))
  where
    G : ℕ → ℕ
    G k = group_at t k

    -- one that is no member: another resource, and of another group
    apart : (k : ℕ) → (j ≡ k → ⊥) → (ltb 0 (G j) && eqb (G j) (G k)) ≡ false → together t j k ≡ false
    apart k d e = rw (ne_eqb j k d, e)

    go : Dec (G j ≡ 0) → First max_resources (together t j) (slot_of t.groups j)
    go (yes z) =
        rw (slot_alone t.groups j z)
        (record {
          upto = omega arith;
          clear = λ k l. apart k (λ q. omega arith) (rw (le-ltb 0 (G j) (omega arith)));
          found = λ _. rw (eq-eqb j j refl);
        })
    go (no d) =
        let w = slot_group t.groups j d in
        let b = slot_below t.groups j h in
        record {
          upto = w.upto;
          clear = λ k l. let o = eqb-false (G k) (G j) (w.clear k l) in apart k (λ q. o (ap G (sym q))) (other k o);
          found = λ _. let e = eqb-true (G (slot_of t.groups j)) (G j) (w.found b) in is_or (eqb j (slot_of t.groups j)) (and_is (lt-ltb 0 (G j) (omega arith)) (eq-eqb (G j) _ (sym e)));
        }
      where
        other : (k : ℕ) → (G k ≡ G j → ⊥) → (ltb 0 (G j) && eqb (G j) (G k)) ≡ false
        other k o = rw (lt-ltb 0 (G j) (omega arith), ne_eqb (G j) (G k) (λ q. o (sym q)))

        and_is : {x y : Bool} → x ≡ true → y ≡ true → (x && y) ≡ true
        and_is e f = rw (e, f)

        is_or : (x : Bool) {y : Bool} → y ≡ true → (x || y) ≡ true
        is_or true f = refl
        is_or false f = f

pub slots_together : (a b : Table) → ((j k : ℕ) → j < max_resources → k < max_resources → together a j k ≡ together b j k)
    → (j : ℕ) → j < max_resources → slot_of b.groups j ≡ slot_of a.groups j
slots_together a b same j h =
    slot_together b j h ∙ first_eq max_resources (together b j) (together a j) (λ k l. sym (same j k h l)) ∙ sym (slot_together a j h)

pub slots_equal : (a b : Table) → EqualGroups a b → (j : ℕ) → j < max_resources → slot_of b.groups j ≡ slot_of a.groups j
slots_equal a b same = slots_together a b (λ j k h l. rw (same j h, same k l))

-- ---- no easier as typed, so no easier by the merged pairs

module _ (a b : Table) (e : table_fault a ≡ Ok tt) (f : table_fault b ≡ Ok tt) (same : EqualGroups a b) (w : NoEasier (view_of a) (view_of b)) where
  in_second : (l : ℕ) → l < a.n → l < b.n
  in_second l h = le_trans h w.n

  slot : (j : ℕ) → j < max_resources → slot_of b.groups j ≡ slot_of a.groups j
  slot = slots_equal a b same

  test : (k j : ℕ) → j < max_resources → eqb (slot_of b.groups j) k ≡ eqb (slot_of a.groups j) k
  test k j q = ap (λ (s : ℕ). eqb s k) (slot j q)

  -- of a task and a slot, figure by figure
  at_first : (l k : ℕ) → l < a.n → k < max_resources → pair_at (merged a) l k ≡ merged_pair a.groups (task_at a l) k
  at_first l k h q = (task_merged a e l h).pairs k q

  at_second : (l k : ℕ) → l < a.n → k < max_resources → pair_at (merged b) l k ≡ merged_pair b.groups (task_at b l) k
  at_second l k h q = (task_merged b f l (in_second l h)).pairs k q

  requests : EachPair (merged_view a) (λ l k. (merged_view a).N l k ≤ (merged_view b).N l k)
  unfolding merged_pair
  requests l k h q =
      rw (at_first l k h q, at_second l k h q)
      (sum_le max_resources _ _ (λ j r. only_le (eqb (slot_of a.groups j) k) (eqb (slot_of b.groups j) k) _ _ (test k j r) (w.N l j h r)))

  longest : EachPair (merged_view a) (λ l k. (merged_view a).c l k ≤ (merged_view b).c l k)
  unfolding merged_pair
  longest l k h q =
      rw (at_first l k h q, at_second l k h q)
      (max_le max_resources _ _ (λ j r. only_le (eqb (slot_of a.groups j) k) (eqb (slot_of b.groups j) k) _ _ (test k j r) (w.c l j h r)))

  totals : EachPair (merged_view a) (λ l k. (merged_view a).CT l k ≤ (merged_view b).CT l k)
  unfolding merged_pair
  totals l k h q =
      rw (at_first l k h q, at_second l k h q)
      (sum_le max_resources _ _ (λ j r. only_le (eqb (slot_of a.groups j) k) (eqb (slot_of b.groups j) k) _ _ (test k j r) (w.CT l j h r)))

  used : EachPair (merged_view a) (λ l k. uses (merged_view b) l k ≡ uses (merged_view a) l k)
  unfolding merged_pair
  used l k h q =
      rw (at_first l k h q, at_second l k h q)
      (sum_some max_resources _ _ (λ j r. both (eqb (slot_of b.groups j) k) (eqb (slot_of a.groups j) k) _ _ (test k j r) (w.pairs l j h r)))
    where
      both : (x y : Bool) (m n : ℕ) → x ≡ y → ltb 0 m ≡ ltb 0 n → ltb 0 (only x m) ≡ ltb 0 (only y n)
      both true y m n s t = rw (← s) t
      both false y m n s t = rw (← s)

  run_first : (l : ℕ) → l < a.n → (merged_view a).C (level l) ≡ (view_of a).C (level l)
  run_first l h = (task_merged a e l h).run

  run_second : (l : ℕ) → l < a.n → (merged_view b).C (level l) ≡ (view_of b).C (level l)
  run_second l h = (task_merged b f l (in_second l h)).run

  pub as_typed : NoEasier (merged_view a) (merged_view b)
  as_typed =
      record {
        cpus = w.cpus;
        n = w.n;
        T = λ l h. rw ((task_merged a e l h).period, (task_merged b f l (in_second l h)).period) (w.T l h);
        N = requests;
        c = longest;
        C = λ l h. rw (run_first l h, run_second l h) (w.C l h);
        CT = totals;
        free = λ l h. rw (run_first l h, run_second l h, all_merged a e l h, all_merged b f l (in_second l h)) (w.free l h);
        D = λ l h. (task_merged b f l (in_second l h)).deadline ∙ w.D l h ∙ sym (task_merged a e l h).deadline;
        pairs = used;
      }
