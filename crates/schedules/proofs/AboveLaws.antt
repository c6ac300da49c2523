-- At an instant at which no unit of S runs, each that runs above i runs a unit of O, F or L.
-- Assumes nothing.
use Prim.Native.Nat.{ℕ, zero, suc, ◌+◌, ◌≤◌, ◌<◌, zero-le}
use mathlib.Core.Path.{◌≡◌, refl, ◌∙◌}
use mathlib.Core.Bool.{Bool, true, false, ◌&&◌}
use native.Mathlib.Decide.{dec_lt}
use native.Mathlib.Omega.{arith}
use borrow.Author.Tests.{eq-eqb, ltb-true, lt-ltb, le-leb}
use lib.Dec.{eqb, ltb}
use Rattle.basics.specs.Choice.{only}
use Rattle.basics.specs.Over.{sum_to, count_to, first_to}
use Rattle.basics.proofs.OnceLaws.{both, and_both, some_count}
use Rattle.basics.proofs.SumLaws.{sum_le, sum_part, sum_add}
use Rattle.basics.proofs.FirstIndexLaws.{first_is}
use Rattle.table.specs.Limits.{max_resources}
use Rattle.theory.specs.View.{View, level, resource, is_above, uses, ceiling}
use Rattle.schedules.specs.Jobs.{JobSet, Generated}
use Rattle.schedules.specs.Schedule.{Schedule, progress, needs, priority}
use Rattle.schedules.specs.Theorem.{Constrained}
use Rattle.schedules.proofs.FactLaws.{Obeys, waits_for_lem}
use Rattle.schedules.proofs.ProgressLaws.{unit_below}
use Rattle.schedules.proofs.LoadLaws.{works}
use Rattle.schedules.proofs.TallyLaws.{among_suc}
use Rattle.schedules.proofs.LentLaws.{lent}
use Rattle.schedules.proofs.InstantLaws.{or_first, or_second, over, priority_from}
use Rattle.schedules.proofs.UnitLaws.{own_lock, other_lock, high_lock, no_lock, before, budget, cut, as_S, as_O, as_F}

module _ (v : View) (J : JobSet) (S : Schedule) (E : ℕ) (fit : Constrained v) (o : Generated v J) (p : Obeys v J S E) (i : ℕ) where
  -- what task h runs at the instant s of S, O, F and L
  abbrev pub at_s : ℕ → ℕ → ℕ
  at_s s h = only (is_above (level h) (level i)) (only (works J S h (as_S v J fit o i h) s) 1)

  abbrev pub at_O : ℕ → ℕ → ℕ
  at_O s h = only (is_above (level h) (level i)) (only (works J S h (as_O v J fit o i h) s) 1)

  abbrev pub at_F : ℕ → ℕ → ℕ
  at_F s h = only (is_above (level h) (level i)) (only (works J S h (as_F v J fit o i h) s) 1)

  abbrev pub at_L : ℕ → ℕ → ℕ
  at_L s h = only (is_above (level i) (level h)) (only (works J S h (high_lock v J fit o i h) s) 1)

  -- the resource that a task is at is one of the table's, and it uses it
  pub slot : (s w k : ℕ) → w < v.n → needs J S s w ≡ suc k → k < max_resources
  slot s w k l e = omega (arith, o.known w (progress J S s w).job (progress J S s w).unit l (unit_below J S w (λ j. o.some w j l) s))

  pub user : (s w k : ℕ) → w < v.n → needs J S s w ≡ suc k → uses v (level w) (resource k) ≡ true
  user s w k l e = go (dec_lt 0 (v.N (level w) (resource k)))
    where
      go : Dec (0 < v.N (level w) (resource k)) → uses v (level w) (resource k) ≡ true
      go (yes d) = lt-ltb 0 _ d
      go (no d) =
          let j = (progress J S s w).job in
          let c = some_count (J.cost w j) (progress J S s w).unit (λ u. eqb (J.lock w j u) (suc k)) (unit_below J S w (λ j. o.some w j l) s) (eq-eqb _ _ e) in
          let m = slot s w k l e in
          absurd (omega (arith, o.total w j k l m, fit.unused w k l m (omega arith)))

  -- so the ceiling is no lower than the task
  reaches : (w k : ℕ) → w < v.n → w < i → uses v (level w) (resource k) ≡ true → is_above (ceiling v (resource k)) (level i) ≡ true
  unfolding ceiling
  reaches w k l m e = go (dec_lt w (first_to v.n (λ l. uses v (level l) (resource k))))
    where
      go : Dec (w < first_to v.n (λ l. uses v (level l) (resource k))) → ltb (suc (first_to v.n (λ l. uses v (level l) (resource k)))) (suc i) ≡ true
      go (yes d) = both e ((first_is v.n (λ l. uses v (level l) (resource k))).clear w d)
      go (no d) = lt-ltb (suc (first_to v.n (λ l. uses v (level l) (resource k)))) (suc i) (omega arith)

  -- a lower task that runs above i has a lock whose ceiling is above i
  lower : (s h : ℕ) → s < E → h < v.n → i < h → S.runs s h ≡ true → priority v J S s h < i → works J S h (high_lock v J fit o i h) s ≡ true
  lower s h b l m r e =
      lent v J S s h (priority v J S s h) (priority_from v J S s h l) (works J S h (high_lock v J fit o i h) s ≡ true) (λ (x : priority v J S s h ≡ h). absurd (omega arith))
      (λ x. let f = waits_for_lem J S s (priority v J S s h) h x in go (omega arith) f.needing (needs J S s h) refl (p.holder_needs s h b l f.holding))
    where
      go : priority v J S s h < v.n → needs J S s (priority v J S s h) ≡ needs J S s h → (x : ℕ) → needs J S s h ≡ x → 0 < needs J S s h → works J S h (high_lock v J fit o i h) s ≡ true
      go c n zero z y = absurd (omega arith)
      go c n (suc k) z y = let g = reaches (priority v J S s h) k c e (user s (priority v J S s h) k c (n ∙ z)) in rw (r, z, among_suc) g

  -- a higher task that runs and runs no unit of S runs one of O or F
  higher : (s h : ℕ) → S.runs s h ≡ true → works J S h (as_S v J fit o i h) s ≡ false → 1 ≤ only (works J S h (as_O v J fit o i h) s) 1 + only (works J S h (as_F v J fit o i h) s) 1
  higher s h r e = go (needs J S s h) refl
    where
      jb : ℕ
      jb = (progress J S s h).job

      un : ℕ
      un = (progress J S s h).unit

      Goal : Type 0
      Goal = 1 ≤ only (works J S h (as_O v J fit o i h) s) 1 + only (works J S h (as_F v J fit o i h) s) 1

      of_S : as_S v J fit o i h jb un ≡ true → Goal
      of_S q = let g : works J S h (as_S v J fit o i h) s ≡ true = and_both (S.runs s h) (as_S v J fit o i h jb un) r q in both g e

      of_O : as_O v J fit o i h jb un ≡ true → Goal
      of_O q = let g : works J S h (as_O v J fit o i h) s ≡ true = and_both (S.runs s h) (as_O v J fit o i h jb un) r q in rw g (omega arith)

      of_F : as_F v J fit o i h jb un ≡ true → Goal
      of_F q = let g : works J S h (as_F v J fit o i h) s ≡ true = and_both (S.runs s h) (as_F v J fit o i h jb un) r q in rw g (omega arith)

      lock : (k : ℕ) → needs J S s h ≡ suc k → (b : Bool) → uses v (level i) (resource k) ≡ b → Goal
      lock k z true f = let q : own_lock v J fit o i h jb un ≡ true = rw (z, among_suc) f in of_S (or_first (own_lock v J fit o i h jb un) _ q)
      lock k z false f = let q : other_lock v J fit o i h jb un ≡ true = rw (z, among_suc, f) in of_O (or_first (other_lock v J fit o i h jb un) _ q)

      none : no_lock v J fit o i h jb un ≡ true → Dec (before v J fit o i h jb un < budget v J fit o i h) → Dec (before v J fit o i h jb un < cut v J fit o i h jb) → Goal
      none f (yes d) c = of_F (and_both _ _ f (lt-ltb _ _ d))
      none f (no d) (yes c) =
          of_O (or_second (other_lock v J fit o i h jb un) _ (and_both _ _ f (and_both _ _ (le-leb (budget v J fit o i h) (before v J fit o i h jb un) (omega arith)) (lt-ltb _ _ c))))
      none f (no d) (no c) = of_S (or_second (own_lock v J fit o i h jb un) _ (and_both _ _ f (le-leb (cut v J fit o i h jb) (before v J fit o i h jb un) (omega arith))))

      go : (x : ℕ) → needs J S s h ≡ x → Goal
      go zero z = none (eq-eqb (needs J S s h) 0 z) (dec_lt (before v J fit o i h jb un) (budget v J fit o i h)) (dec_lt (before v J fit o i h jb un) (cut v J fit o i h jb))
      go (suc k) z = lock k z (uses v (level i) (resource k)) refl

  runs_one : (s h : ℕ) → s < E → h < v.n → S.runs s i ≡ false → at_s s h ≡ 0 → only (over v J S s i h) 1 ≤ at_O s h + at_F s h + at_L s h
  runs_one s h b l n z = go (S.runs s h) refl (ltb (priority v J S s h) i) refl (dec_lt h i) (dec_lt i h)
    where
      no_S : is_above (level h) (level i) ≡ true → (c : Bool) → works J S h (as_S v J fit o i h) s ≡ c → c ≡ false
      no_S a true e = let y : at_s s h ≡ 1 = rw (a, e) in absurd (omega arith)
      no_S a false e = refl

      go : (a : Bool) → S.runs s h ≡ a → (c : Bool) → ltb (priority v J S s h) i ≡ c → Dec (h < i) → Dec (i < h) → only (a && c) 1 ≤ at_O s h + at_F s h + at_L s h
      go false e c f d g = zero-le
      go true e false f d g = zero-le
      go true e true f (yes d) g =
          let a : is_above (level h) (level i) ≡ true = lt-ltb (suc h) (suc i) (omega arith) in
          let x = higher s h e (no_S a (works J S h (as_S v J fit o i h) s) refl) in
          rw a (omega arith)
      go true e true f (no d) (yes g) =
          let a : is_above (level i) (level h) ≡ true = lt-ltb (suc i) (suc h) (omega arith) in
          let x = lower s h b l g e (ltb-true (priority v J S s h) i f) in
          rw (a, x) (omega arith)
      go true e true f (no d) (no g) = let q : h ≡ i = omega arith in let y : S.runs s i ≡ true = rw (← q) e in both y n

  -- m that run above i
  pub runs_all : (s : ℕ) → s < E → S.runs s i ≡ false → sum_to v.n (at_s s) ≡ 0 → v.cpus ≤ count_to v.n (over v J S s i)
      → v.cpus ≤ sum_to v.n (at_O s) + sum_to v.n (at_F s) + sum_to v.n (at_L s)
  runs_all s b n z c =
      let a = sum_le v.n (λ h. only (over v J S s i h) 1) (λ h. at_O s h + at_F s h + at_L s h) (λ h l. runs_one s h b l n (let q = sum_part v.n h (at_s s) l in omega arith)) in
      let d = sum_add v.n (at_O s) (at_F s) in
      let e = sum_add v.n (λ h. at_O s h + at_F s h) (at_L s) in
      omega arith
