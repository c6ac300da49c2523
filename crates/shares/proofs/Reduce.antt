-- The demand of a task's shares is the demand of the task: units that do not count have no workload.
-- Assumes nothing.
use Prim.Native.Nat.{ℕ, zero, suc, ◌+◌, ◌-◌}
use mathlib.Core.Path.{◌≡◌, refl, sym, ap, ap₂, ◌∙◌}
use mathlib.Core.Bool.{Bool, true, false}
use native.Mathlib.Nat.{le_refl, div-eq_of_lt}
use native.Mathlib.Omega.{arith}
use lib.Dec.{T as Holds, leb, ltb→lt}
use Rattle.basics.specs.Choice.{pick, only}
use Rattle.basics.specs.Over.{sum_to}
use Rattle.basics.proofs.SumLaws.{sum_eq, sum_add, sum_bound}
use Rattle.table.specs.declared.Level.{Level}
use Rattle.theory.specs.Work.{workload, ceil_div}
use Rattle.theory.specs.View.{View, level, is_above}
use Rattle.theory.specs.Demand.{load_of, shared_CT, other_CT, all_CT, high_CT, S, O, F, L, demand_with, demand_of}
use Rattle.theory.proofs.WorkLaws.{workload_none}
use Rattle.rounds.specs.declared.Shares.{Shares}
use Rattle.rounds.specs.Shares.{share_at, whole_of, part_of, shares_demand}
use Rattle.shares.proofs.ShareLaws.{SharesAre}

-- ---- a workload of units that count where a test holds

only_load : (b : Bool) (T D t x : ℕ) → workload T D t (only b x) ≡ only b (workload T D t x)
only_load true T D t x = refl
only_load false T D t x = workload_none T D t

-- one task's divided workloads: O's and F's of a task above, L's of a task below, at most one of which it is
part_load_lem : (a b : Bool) (T D t o h f : ℕ) → (Holds a → Holds b → ⊥)
    → workload T D t (pick a o (only b h)) + workload T D t (only a f)
    ≡ only a (workload T D t o) + only a (workload T D t f) + only b (workload T D t h)
part_load_lem true true T D t o h f n = absurd (n tt tt)
part_load_lem true false T D t o h f n = omega arith
part_load_lem false b T D t o h f n = omega (arith, only_load b T D t h, workload_none T D t)

-- nothing divided by m and rounded up is nothing
ceil_pick : (b : Bool) (m x : ℕ) → ceil_div (pick b 0 x) m ≡ pick b 0 (ceil_div x m)
unfolding ceil_div
ceil_pick true zero x = refl
ceil_pick true (suc m) x = div-eq_of_lt (omega arith)
ceil_pick false m x = refl

sum_pick : (b : Bool) (n : ℕ) (g : ℕ → ℕ) → sum_to n (λ l. pick b 0 (g l)) ≡ pick b 0 (sum_to n g)
sum_pick true n g = omega (arith, sum_bound n 0 (λ l. 0) (λ l h. le_refl 0))
sum_pick false n g = refl

-- ---- the sums over the shares

module _ (v : View) (i : Level) (t : ℕ) where
  -- what task l adds to O, F and L
  terms : Level → ℕ
  terms l =
      only (is_above l i) (load_of workload v t l (other_CT v i l))
      + only (is_above l i) (load_of workload v t l (v.C l - all_CT v l))
      + only (is_above i l) (load_of workload v t l (high_CT v i l))

  terms_are : sum_to v.n (λ l. terms (level l)) ≡ O workload v i t + F workload v i t + L workload v i t
  unfolding O F L terms
  terms_are = sym (ap (λ (x : ℕ). x + L workload v i t) (sum_add v.n _ _) ∙ sum_add v.n _ _)

  term_is : (b : Bool) (l : Level)
      → load_of workload v t l (pick b 0 (pick (is_above l i) (other_CT v i l) (only (is_above i l) (high_CT v i l))))
      + load_of workload v t l (pick b 0 (only (is_above l i) (v.C l - all_CT v l)))
      ≡ pick b 0 (terms l)
  unfolding terms
  term_is true l = omega (arith, workload_none (v.T l) (v.D l) t)
  term_is false l =
      part_load_lem (is_above l i) (is_above i l) (v.T l) (v.D l) t _ _ _
      (λ p q. let p' = ltb→lt l.0 i.0 p in let q' = ltb→lt i.0 l.0 q in omega arith)

module _ (v : View) (i : Level) (s : Shares) (r : SharesAre v i s) (t : ℕ) where
  whole_is : sum_to s.n (λ l. whole_of (share_at s l) t) ≡ S workload v i t
  unfolding S
  whole_is =
      rw r.n
      (sum_eq v.n _ _
      (λ l h.
      let e = r.each l h in
      rw (e.period, e.deadline, e.whole) (only_load (is_above (level l) i) (v.T (level l)) (v.D (level l)) t (shared_CT v i (level l)))))

  part_is : sum_to s.n (λ l. part_of (share_at s l) t) ≡ pick (leb i.0 v.cpus) 0 (O workload v i t + F workload v i t + L workload v i t)
  part_is =
      rw r.n
      (sum_eq v.n _ _
      (λ l h. let e = r.each l h in rw (e.period, e.deadline, e.one, e.two) (term_is v i t (leb i.0 v.cpus) (level l)))
      ∙ sum_pick (leb i.0 v.cpus) v.n (λ l. terms v i t (level l))
      ∙ ap (pick (leb i.0 v.cpus) 0) (terms_are v i t))

pub shares_demand_lem : (v : View) (i : ℕ) (s : Shares) → SharesAre v (level i) s → (t : ℕ) → shares_demand s t ≡ demand_of v (level i) t
unfolding shares_demand demand_with
shares_demand_lem v i s r t =
    ap₂ ◌+◌ (ap₂ ◌+◌ r.base (whole_is v (level i) s r t))
    (ap₂ ceil_div (part_is v (level i) s r t) r.cpus ∙ ceil_pick (leb (level i).0 v.cpus) v.cpus _)
