-- The ceilings that the pass keeps: whether a resource's ceiling is above task i is known once the tasks down to i are.
-- Assumes nothing.
use Prim.Native.Nat.{ℕ, zero, suc, ◌+◌, ◌≤◌, ◌<◌}
use mathlib.Core.Path.{◌≡◌, refl, sym, ap, ◌∙◌}
use mathlib.Core.Bool.{Bool, true, false}
use mathlib.Core.List.{List}
use native.Mathlib.Nat.{le_refl, add-zero}
use native.Mathlib.Numerals.{add-one}
use native.Mathlib.Omega.{arith}
use borrow.Author.Tests.{ltb-true, ltb-false, lt-ltb, le-ltb}
use lib.Dec.{ltb}
use lib.ListN.{replicate, get_or-replicate}
use Rattle.basics.specs.Choice.{pick}
use Rattle.basics.proofs.SumLaws.{sum_none, sum_more}
use Rattle.table.specs.declared.Level.{Level}
use Rattle.table.specs.declared.Table.{Table}
use Rattle.table.specs.Limits.{max_tasks, max_resources}
use Rattle.table.specs.At.{task_at}
use Rattle.theory.specs.View.{level, resource, is_above, ceiling}
use Rattle.theory.proofs.PassLaws.{ceiling_above}
use Rattle.theory.specs.Tables.{view_of}
use Rattle.shares.specs.Pass.{mark_at, ceiling_at, ceiling_with, CeilingsWith, HighIn, CeilingsTo}

-- a task above i that uses the resource brings its ceiling above i
first_above : (e task i : Level) (b : Bool) → is_above task e ≡ b → task.0 < i.0 → is_above (pick b task e) i ≡ true
first_above e task i true q h = lt-ltb _ _ h
first_above e task i false q h = lt-ltb e.0 i.0 (omega (arith, ltb-false task.0 e.0 q))

with_above : (e task i : Level) (n s : ℕ) → task.0 < i.0 → is_above e i ≡ ltb 0 s → is_above (ceiling_with e n task) i ≡ ltb 0 (s + n)
with_above e task i zero s h q = rw add-zero q
with_above e task i (suc n) s h q =
    rw (lt-ltb 0 (suc n) (omega arith), lt-ltb 0 (s + suc n) (omega arith)) (first_above e task i (is_above task e) refl h)

-- task i itself does not
own_not : (e i : Level) (b : Bool) → is_above i e ≡ b → is_above (pick b i e) i ≡ is_above e i
own_not e i true q = le-ltb i.0 i.0 (le_refl _) ∙ sym (le-ltb e.0 i.0 (omega (arith, ltb-true i.0 e.0 q)))
own_not e i false q = refl

with_own : (e i : Level) (n : ℕ) → is_above (ceiling_with e n i) i ≡ is_above e i
with_own e i zero = refl
with_own e i (suc n) = rw (lt-ltb 0 (suc n) (omega arith)) (own_not e i (is_above i e) refl)

-- the marks that are then made: the resources with a ceiling above i
abbrev pub AboveIs : Table → ℕ → List Bool → Type 0
AboveIs t i m = (k : ℕ) → k < max_resources → mark_at m k ≡ is_above (ceiling (view_of t) (resource k)) (level i)

-- at first no ceiling is known: 33 stands for each
pub ceilings_none : (t : Table) (i : ℕ) → i < max_tasks → CeilingsTo t i 0 (replicate max_resources (level max_tasks))
ceilings_none t i h k q = rw (get_or-replicate max_resources k (level max_tasks) _ q, le-ltb (level max_tasks).0 (level i).0 (omega arith), ← sum_none)

module _ (t : Table) (i : ℕ) (c r : List Level) where
  pub ceilings_more : (l : ℕ) → l < i → CeilingsTo t i l c → CeilingsWith c (task_at t l) (record { 0 = l + 1 }) r → CeilingsTo t i (l + 1) r
  ceilings_more l h is w k q =
      ap (λ (e : Level). is_above e (level i)) (w.each k q)
      ∙ with_above (ceiling_at c k) (record { 0 = l + 1 }) (level i) ((view_of t).N (level l) (resource k)) _ (omega arith) (is k q)
      ∙ sym (ap (ltb 0) (sum_more l (λ j. (view_of t).N (level j) (resource k))))

  pub ceilings_all : (m : List Bool) → i ≤ t.n → CeilingsTo t i i c → CeilingsWith c (task_at t i) (record { 0 = i + 1 }) r
      → HighIn r (record { 0 = i + 1 }) m → AboveIs t i m
  ceilings_all m h is w g k q =
      g.each k q
      ∙ ap (λ (e : Level). is_above e (record { 0 = i + 1 })) (w.each k q)
      ∙ with_own (ceiling_at c k) (record { 0 = i + 1 }) ((view_of t).N (level i) (resource k))
      ∙ ap (ltb (ceiling_at c k).0) (add-one i)
      ∙ is k q
      ∙ sym (ceiling_above (view_of t) i (resource k) h)
