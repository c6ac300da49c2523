-- (11): while a job is there, each instant is one at which it runs, or is blocked by one below it, or a unit of S runs, or all m run units of O, F or L.
-- Assumes nothing.
use Prim.Native.Nat.{ℕ, zero, suc, ◌+◌, ◌-◌, ◌*◌, ◌≤◌, ◌<◌}
use mathlib.Core.Path.{◌≡◌, refl, ◌∙◌}
use mathlib.Core.Bool.{Bool, true, false, not, ◌&&◌}
use native.Mathlib.Nat.{le-div_iff_mul-le}
use native.Mathlib.Decide.{dec_lt, ℕ_discrete}
use native.Mathlib.Omega.{arith}
use borrow.Author.Tests.{eq-eqb, eqb-true, lt-ltb, le-leb, leb-true}
use lib.Dec.{eqb, leb}
use Rattle.basics.specs.Choice.{only, pick}
use Rattle.basics.specs.Over.{sum_to, count_to, first_to}
use Rattle.basics.proofs.ChoiceLaws.{stops, and_true}
use Rattle.basics.proofs.OnceLaws.{first_below}
use Rattle.basics.proofs.SumLaws.{sum_le, sum_part, sum_add, sum_scale}
use Rattle.basics.proofs.CountLaws.{sum_ones, count_none}
use Rattle.theory.specs.Work.{workload, ceil_div}
use Rattle.theory.specs.View.{View, level, is_above}
use Rattle.theory.specs.Demand.{O as OTerm, F as FTerm, L as LTerm}
use Rattle.windows.proofs.ServedLaws.{hits}
use Rattle.schedules.specs.Jobs.{JobSet, Generated}
use Rattle.schedules.specs.Schedule.{Schedule, progress, needs, pending, waits_for}
use Rattle.schedules.specs.Theorem.{Constrained}
use Rattle.schedules.proofs.FactLaws.{Obeys, WaitsFor, waits_for_lem}
use Rattle.schedules.proofs.TallyLaws.{among_suc}
use Rattle.schedules.proofs.InstantLaws.{over, Why, busy, held, why, above_most}
use Rattle.schedules.proofs.UnitLaws.{own_lock}
use Rattle.schedules.proofs.TermLaws.{Met, O_most, F_most, L_most}
use Rattle.schedules.proofs.AboveLaws.{at_s, at_O, at_F, at_L, user, runs_all}
use Rattle.schedules.proofs.BlockerLaws.{blocks, blocked}

-- at most the quotient rounded up
under : (k m X : ℕ) → 1 ≤ m → m * k ≤ X → k ≤ ceil_div X m
unfolding ceil_div
under k m X pos h = let e : k * m ≤ X + (m - 1) = omega arith in (le-div_iff_mul-le pos).1 e

module _ (v : View) (J : JobSet) (S : Schedule) (E : ℕ) (fit : Constrained v) (o : Generated v J) (p : Obeys v J S E) (i : ℕ) where
  abbrev all_S : ℕ → ℕ
  all_S s = sum_to v.n (at_s v J S E fit o p i s)

  abbrev all_O : ℕ → ℕ
  all_O s = sum_to v.n (at_O v J S E fit o p i s)

  abbrev all_F : ℕ → ℕ
  all_F s = sum_to v.n (at_F v J S E fit o p i s)

  abbrev all_l : ℕ → ℕ
  all_l s = sum_to v.n (at_L v J S E fit o p i s)

  pub full : ℕ → Bool
  full s = not (S.runs s i) && (eqb (all_S s) 0 && leb v.cpus (count_to v.n (over v J S s i)))

  -- ---- an instant

  instant : (s : ℕ) → s < E → i < v.n → pending J S s i ≡ true → 1 ≤ only (S.runs s i) 1 + only (blocked v J S i s) 1 + all_S s + only (full s) 1
  unfolding full
  instant s b l r = go (S.runs s i) refl
    where
      Goal : Bool → Type 0
      Goal c = 1 ≤ only c 1 + only (blocked v J S i s) 1 + all_S s + only (not c && (eqb (all_S s) 0 && leb v.cpus (count_to v.n (over v J S s i)))) 1

      -- a higher one that holds i's lock runs a unit of S
      of_S : (h : ℕ) → h < v.n → h < i → waits_for J S s i h ≡ true → S.runs s h ≡ true → 1 ≤ all_S s
      of_S h m g e x = unit (needs J S s h) refl
        where
          f : WaitsFor J S s i h
          f = waits_for_lem J S s i h e

          unit : (x : ℕ) → needs J S s h ≡ x → 1 ≤ all_S s
          unit zero z = absurd (omega (arith, p.holder_needs s h b m f.holding))
          unit (suc k) z =
              let u = user v J S E fit o p i s i k l (f.needing ∙ z) in
              let a : is_above (level h) (level i) ≡ true = lt-ltb (suc h) (suc i) (omega arith) in
              let q : own_lock v J fit o i h (progress J S s h).job (progress J S s h).unit ≡ true = rw (z, among_suc) u in
              let y : at_s v J S E fit o p i s h ≡ 1 = rw (a, x, q) in
              omega (arith, sum_part v.n h (at_s v J S E fit o p i s) m)

      not_run : Why v J S s i → Dec (all_S s ≡ 0) → Goal false
      not_run w (no d) = omega arith
      not_run (busy c) (yes d) = let e = eq-eqb (all_S s) 0 d in let f = le-leb v.cpus _ c in rw (e, f) (omega arith)
      not_run (held h m e x ne) (yes d) = which (dec_lt i h)
        where
          which : Dec (i < h) → Goal false
          which (yes g) =
              let c : blocks J S s i h ≡ true = rw (lt-ltb i h g, x, e) in
              let q : blocked v J S i s ≡ true = lt-ltb (first_to v.n (blocks J S s i)) v.n (first_below v.n h (blocks J S s i) m c) in
              rw q (omega arith)
          which (no g) = absurd (omega (arith, of_S h m (omega (arith, ne)) e x))

      go : (c : Bool) → S.runs s i ≡ c → Goal c
      go true e = omega arith
      go false e = not_run (why v J S s E p b i l r e) (ℕ_discrete (all_S s) 0)

  full_of : (s : ℕ) → full s ≡ true → (S.runs s i ≡ false) × (all_S s ≡ 0) × (v.cpus ≤ count_to v.n (over v J S s i))
  unfolding full
  full_of s e =
      let a = and_true (not (S.runs s i)) (eqb (all_S s) 0 && leb v.cpus (count_to v.n (over v J S s i))) e in
      let b = and_true (eqb (all_S s) 0) (leb v.cpus (count_to v.n (over v J S s i))) a.1 in
      (stops refl a.0, eqb-true (all_S s) 0 b.0, leb-true v.cpus (count_to v.n (over v J S s i)) b.1)

  full_units : (s : ℕ) → s < E → v.cpus * only (full s) 1 ≤ all_O s + all_F s + all_l s
  full_units s b = go (full s) refl
    where
      go : (c : Bool) → full s ≡ c → v.cpus * only c 1 ≤ all_O s + all_F s + all_l s
      go true e = let f = full_of s e in omega (arith, runs_all v J S E fit o p i s b f.0 f.1 f.2)
      go false e = omega arith

  -- for i ≤ m there are never m above it
  never_full : (s : ℕ) → s < E → i < v.cpus → (c : Bool) → full s ≡ c → c ≡ false
  never_full s b h true e = absurd (omega (arith, (full_of s e).2, above_most v J S s E p b i))
  never_full s b h false e = refl

  -- ---- the instants of a window, before the end of the run, in which the job is there

  module _ (A t : ℕ) (end : A + t ≤ E) (l : i < v.n) where
    pub kinds : ((s : ℕ) → s < t → pending J S (A + s) i ≡ true) → t ≤ hits (λ s. S.runs s i) A t + hits (blocked v J S i) A t + sum_to t (λ s. all_S (A + s)) + hits full A t
    unfolding hits
    kinds r =
        let a = sum_le t (λ _. 1) (λ s. only (S.runs (A + s) i) 1 + only (blocked v J S i (A + s)) 1 + all_S (A + s) + only (full (A + s)) 1)
        (λ s h. instant (A + s) (omega arith) l (r s h)) in
        let b = sum_add t (λ s. only (S.runs (A + s) i) 1) (λ s. only (blocked v J S i (A + s)) 1) in
        let c = sum_add t (λ s. only (S.runs (A + s) i) 1 + only (blocked v J S i (A + s)) 1) (λ s. all_S (A + s)) in
        let d = sum_add t (λ s. only (S.runs (A + s) i) 1 + only (blocked v J S i (A + s)) 1 + all_S (A + s)) (λ s. only (full (A + s)) 1) in
        omega (arith, sum_ones t)

    fulls : v.cpus * hits full A t ≤ sum_to t (λ s. all_O (A + s)) + sum_to t (λ s. all_F (A + s)) + sum_to t (λ s. all_l (A + s))
    unfolding hits
    fulls =
        let a = sum_le t (λ s. v.cpus * only (full (A + s)) 1) (λ s. all_O (A + s) + all_F (A + s) + all_l (A + s)) (λ s h. full_units (A + s) (omega arith)) in
        let b = sum_add t (λ s. all_O (A + s)) (λ s. all_F (A + s)) in
        let c = sum_add t (λ s. all_O (A + s) + all_F (A + s)) (λ s. all_l (A + s)) in
        omega (arith, sum_scale t v.cpus (λ s. only (full (A + s)) 1))

    no_fulls : i < v.cpus → hits full A t ≡ 0
    unfolding hits
    no_fulls h = count_none t (λ s. full (A + s)) (λ s k. never_full (A + s) (omega arith) h (full (A + s)) refl)

    -- the last term of (11)
    pub full_most : Met v J S E fit o p i (A + t)
        → hits full A t ≤ pick (leb (suc i) v.cpus) 0 (ceil_div (OTerm workload v (level i) t + FTerm workload v (level i) t + LTerm workload v (level i) t) v.cpus)
    full_most met = go (leb (suc i) v.cpus) refl
      where
        go : (b : Bool) → leb (suc i) v.cpus ≡ b
            → hits full A t ≤ pick b 0 (ceil_div (OTerm workload v (level i) t + FTerm workload v (level i) t + LTerm workload v (level i) t) v.cpus)
        go true e = omega (arith, no_fulls (leb-true (suc i) v.cpus e))
        go false e =
            under _ v.cpus _ fit.some (omega (arith, fulls, O_most v J S E fit o p i e A t end met, F_most v J S E fit o p i e A t end met, L_most v J S E fit o p i e A t end met))
