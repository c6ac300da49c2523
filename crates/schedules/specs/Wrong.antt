-- What Theorem 1 does not hold of: kernels of other kinds, and smaller demands. `Broken` has a run for each.
use Rattle.std.specs.Prelude.{ℕ, suc, ◌+◌, ◌-◌, ◌≤◌, ◌<◌, ◌≡◌, Bool, true, false, ◌&&◌, ◌||◌, leb, ltb}
use Rattle.basics.specs.Choice.{pick, only}
use Rattle.basics.specs.Over.{count_to}
use Rattle.table.specs.declared.Level.{Level}
use Rattle.theory.specs.Work.{workload, ceil_div, quotient}
use Rattle.theory.specs.View.{View, over_resources, over_below, largest_below, uses, ceiling}
use Rattle.theory.specs.Demand.{DB, S as STerm, O as OTerm, F as FTerm, L as LTerm, load_of, demand_of}
use Rattle.schedules.specs.Jobs.{JobSet}
use Rattle.schedules.specs.Schedule.{Schedule, pending, waits, priority, KernelFact, conserves, FactAt}

-- ---- kernels

-- all facts hold but one
abbrev pub UnderPIPBut : KernelFact → View → JobSet → Schedule → ℕ → Type 0
UnderPIPBut g v J S E = (s : ℕ) → s < E → (f : KernelFact) → (f ≡ g → ⊥) → FactAt v J S s f

-- kernels in which who waits spins, and keeps its processor; and those without inheritance
pub data OtherKernel : Type 0 where
  spins : OtherKernel
  no_inheritance : OtherKernel

-- h is in l's way, in the place of `ahead`
unfoldable pub ahead_in : OtherKernel → View → JobSet → Schedule → ℕ → ℕ → ℕ → Bool
ahead_in spins v J S s l h = (S.runs s h || waits v J S s h) && leb (priority v J S s h) (priority v J S s l)
ahead_in no_inheritance v J S s l h = S.runs s h && leb h l

pub record UnderOther (o : OtherKernel) (v : View) (J : JobSet) (S : Schedule) (E : ℕ) : Type 0 where
  pub others : UnderPIPBut conserves v J S E
  pub conserved : (s l : ℕ) → s < E → l < v.n → pending J S s l ≡ true → waits v J S s l ≡ false → S.runs s l ≡ false → v.cpus ≤ count_to v.n (ahead_in o v J S s l)

-- ---- demands

pub data WrongDemand : Type 0 where
  -- DB, S, O, F or L left out
  no_DB : WrongDemand
  no_S : WrongDemand
  no_O : WrongDemand
  no_F : WrongDemand
  no_L : WrongDemand
  -- in DB one wait for a lock, and not one for each request
  once_a_lock : WrongDemand
  -- S divided by m, as O, F and L are
  divided_S : WrongDemand
  -- the short form for task m + 1 too
  next_short : WrongDemand
  -- in L only the locks whose ceiling is above i by more than one
  next_ceiling : WrongDemand
  -- one less
  one_less : WrongDemand

-- (11), of these terms
abbrev demand_by : View → Level → ℕ → ℕ → ℕ → ℕ → ℕ → ℕ
demand_by v i DB S O F L = v.C i + DB + S + pick (leb i.0 v.cpus) 0 (quotient O F L v.cpus)

unfoldable pub wrong_demand : WrongDemand → View → Level → ℕ → ℕ
wrong_demand no_DB v i t = demand_by v i 0 (STerm workload v i t) (OTerm workload v i t) (FTerm workload v i t) (LTerm workload v i t)
wrong_demand no_S v i t = demand_by v i (DB v i) 0 (OTerm workload v i t) (FTerm workload v i t) (LTerm workload v i t)
wrong_demand no_O v i t = demand_by v i (DB v i) (STerm workload v i t) 0 (FTerm workload v i t) (LTerm workload v i t)
wrong_demand no_F v i t = demand_by v i (DB v i) (STerm workload v i t) (OTerm workload v i t) 0 (LTerm workload v i t)
wrong_demand no_L v i t = demand_by v i (DB v i) (STerm workload v i t) (OTerm workload v i t) (FTerm workload v i t) 0
wrong_demand once_a_lock v i t =
    demand_by v i (over_resources (λ k. only (uses v i k) (largest_below v i (λ l. v.c l k)))) (STerm workload v i t) (OTerm workload v i t) (FTerm workload v i t) (LTerm workload v i t)
wrong_demand divided_S v i t = demand_by v i (DB v i) (ceil_div (STerm workload v i t) v.cpus) (OTerm workload v i t) (FTerm workload v i t) (LTerm workload v i t)
wrong_demand next_short v i t = pick (leb i.0 (suc v.cpus)) (v.C i + DB v i + STerm workload v i t) (demand_of v i t)
wrong_demand next_ceiling v i t =
    demand_by v i (DB v i) (STerm workload v i t) (OTerm workload v i t) (FTerm workload v i t)
    (over_below v i (λ l. load_of workload v t l (over_resources (λ k. only (ltb (suc (ceiling v k).0) i.0) (v.CT l k)))))
wrong_demand one_less v i t = demand_of v i t - 1
