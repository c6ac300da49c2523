-- The demand of a task never falls as its terms grow: one law, for any two tables, lengths and workloads. Between a table and itself it says that the demand falls neither with t
-- nor by a larger workload (request 3/12).
-- Assumes nothing.
use Prim.Native.Nat.{ℕ, ◌+◌, ◌-◌, ◌≤◌, ◌<◌}
use mathlib.Core.Path.{refl}
use mathlib.Core.Bool.{Bool}
use native.Mathlib.Nat.{le_refl}
use native.Mathlib.Decide.{dec_le}
use native.Mathlib.Omega.{arith}
use borrow.Author.Tests.{le-leb, lt-leb}
use lib.Dec.{leb}
use Rattle.table.specs.declared.Level.{Level}
use Rattle.basics.specs.Choice.{pick, only}
use Rattle.basics.specs.Over.{sum_to}
use Rattle.basics.proofs.ChoiceLaws.{only_le}
use Rattle.basics.proofs.SumLaws.{sum_wider}
use Rattle.theory.specs.Work.{ceil_div}
use Rattle.theory.specs.View.{View, level, is_above}
use Rattle.theory.specs.Demand.{shared_CT, other_CT, all_CT, high_CT, DB, Load, load_of, S, O, F, L, demand_with}
use Rattle.theory.proofs.LeastLaws.{Rises}
use Rattle.theory.proofs.WorkLaws.{ceil_div_rises}

-- what the analysis needs of a table to be monotone at all: a processor, and no period of 0
pub record Runs (v : View) : Type 0 where
  pub cpus : 1 ≤ v.cpus
  pub T : (l : ℕ) → l < v.n → 1 ≤ v.T (level l)

-- the first is never more than the second, nor than the second over a longer t and with a shorter period
abbrev pub NoMore : Load → Load → Type 0
NoMore W W' = (T T' D t t' x : ℕ) → 0 < T' → T' ≤ T → t ≤ t' → W T D t x ≤ W' T' D t' x

pub demand_start : (W : Load) (v : View) (i : Level) (t : ℕ) → v.C i ≤ demand_with W v i t
unfolding demand_with
demand_start W v i t = omega arith

-- the last term of (11): with fewer processors the short form may be lost, and is never won
divided : (i m m' n n' : ℕ) → 1 ≤ m' → m' ≤ m → n ≤ n' → Dec (i ≤ m)
    → pick (leb i m) 0 (ceil_div n m) ≤ pick (leb i m') 0 (ceil_div n' m')
divided i m m' n n' p h l (yes k) = rw (le-leb i m k) (omega arith)
divided i m m' n n' p h l (no k) = rw (lt-leb i m (omega arith), lt-leb i m' (omega arith)) (ceil_div_rises m m' n n' p h l)

module _ (W W' : Load) (v w : View) (i : Level) (t t' : ℕ) where
  -- of each task of the first the workload, x of its units counting, is no more than that of the second, y counting
  abbrev Loads : (Level → ℕ) → (Level → ℕ) → Type 0
  Loads x y = (l : ℕ) → l < v.n → load_of W v t (level l) (x (level l)) ≤ load_of W' w t' (level l) (y (level l))

  -- no part of (11) is smaller in the second table, which has a processor, and no more of them than the first
  pub record TermsGrow : Type 0 where
    pub some : 1 ≤ w.cpus
    pub cpus : w.cpus ≤ v.cpus
    pub n : v.n ≤ w.n
    pub C : v.C i ≤ w.C i
    pub DB : DB v i ≤ DB w i
    pub S : Loads (shared_CT v i) (shared_CT w i)
    pub O : Loads (other_CT v i) (other_CT w i)
    pub F : Loads (λ l. v.C l - all_CT v l) (λ l. w.C l - all_CT w l)
    pub L : Loads (high_CT v i) (high_CT w i)

  -- a sum over some of the tasks
  part_le : v.n ≤ w.n → (p : Level → Bool) (x y : Level → ℕ) → Loads x y
      → sum_to v.n (λ l. only (p (level l)) (load_of W v t (level l) (x (level l))))
      ≤ sum_to w.n (λ l. only (p (level l)) (load_of W' w t' (level l) (y (level l))))
  part_le m p x y le = sum_wider v.n w.n _ _ m (λ l h. only_le (p (level l)) _ _ _ refl (le l h))

  pub demand_le : TermsGrow → demand_with W v i t ≤ demand_with W' w i t'
  unfolding demand_with S O F L
  demand_le g =
      let above : Level → Bool = λ l. is_above l i in
      let others : O W v i t + F W v i t + L W v i t ≤ O W' w i t' + F W' w i t' + L W' w i t' =
      omega (
        arith,
        part_le g.n above (other_CT v i) (other_CT w i) g.O,
        part_le g.n above (λ l. v.C l - all_CT v l) (λ l. w.C l - all_CT w l) g.F,
        part_le g.n (is_above i) (high_CT v i) (high_CT w i) g.L,
      ) in
      omega (
        arith,
        g.C,
        g.DB,
        part_le g.n above (shared_CT v i) (shared_CT w i) g.S,
        divided i.0 v.cpus w.cpus _ _ g.some g.cpus others (dec_le i.0 v.cpus),
      )

-- from a table to itself, over a longer t and by a larger workload
pub terms_itself : (W W' : Load) → NoMore W W' → (v : View) → Runs v → (i : Level) (t t' : ℕ) → t ≤ t' → TermsGrow W W' v v i t t'
terms_itself W W' up v runs i t t' ht =
    let each : (l x : ℕ) → l < v.n → load_of W v t (level l) x ≤ load_of W' v t' (level l) x =
    λ l x h. up _ _ _ t t' x (runs.T l h) (le_refl _) ht in
    record {
      some = runs.cpus;
      cpus = le_refl v.cpus;
      n = le_refl v.n;
      C = le_refl (v.C i);
      DB = le_refl (DB v i);
      S = λ l h. each l _ h;
      O = λ l h. each l _ h;
      F = λ l h. each l _ h;
      L = λ l h. each l _ h;
    }

pub demand_rises : (W : Load) → NoMore W W → (v : View) → Runs v → (i : Level) → Rises (demand_with W v i)
demand_rises W up v runs i t t' ht = demand_le W W v v i t t' (terms_itself W W up v runs i t t' ht)
