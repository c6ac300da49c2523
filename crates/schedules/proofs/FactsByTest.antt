-- Each fact about a kernel at an instant, by a test that computes where the run is written out.
-- Assumes nothing.
use Prim.Native.Nat.{ℕ, zero, suc}
use mathlib.Core.Path.{◌≡◌, ap}
use mathlib.Core.Bool.{Bool, true, not, ◌&&◌}
use native.Mathlib.Omega.{arith}
use borrow.Author.Tests.{eqb-true, eq-eqb, ltb-true, lt-ltb, leb-true}
use lib.Dec.{eqb, ltb, leb}
use Rattle.basics.specs.Choice.{pick}
use Rattle.basics.specs.Over.{all_to, count_to}
use Rattle.basics.proofs.AllLaws.{all_at}
use Rattle.basics.proofs.OnceLaws.{pick_is, and_both}
use Rattle.theory.specs.View.{View}
use Rattle.schedules.specs.Jobs.{JobSet}
use Rattle.schedules.specs.Schedule.{Schedule, pending, needs, begins, waits_for, waits, ahead, got_after, KernelFact, runs_pending, runs_locked, conserves, one_holder, holds_pending, holds_lock, keeps, goes_on, asked_on, not_past, FactAt}

-- at the instant before s, if there is one
abbrev just_before : ℕ → (ℕ → Bool) → Bool
just_before zero p = true
just_before (suc r) p = p r

just_before_lem : (s r : ℕ) (p : ℕ → Bool) → just_before s p ≡ true → s ≡ suc r → p r ≡ true
just_before_lem zero r p e h = absurd (omega arith)
just_before_lem (suc q) r p e h = let z : r ≡ q = omega arith in rw z e

module _ (v : View) (J : JobSet) (S : Schedule) (s : ℕ) where
  -- each task that passes the first test passes the second
  abbrev each_that : (ℕ → Bool) → (ℕ → Bool) → Bool
  each_that p q = all_to v.n (λ l. pick (p l) (q l) true)

  -- the facts of `FactAt`, in its order
  unfoldable pub fact_test : KernelFact → Bool
  fact_test runs_pending = each_that (S.runs s) (pending J S s)
  fact_test runs_locked = each_that (λ l. S.runs s l && ltb 0 (needs J S s l)) (S.holds s)
  fact_test conserves =
      each_that (λ l. pending J S s l && (not (waits v J S s l) && not (S.runs s l)))
      (λ l. leb v.cpus (count_to v.n (ahead v J S s l)))
  fact_test one_holder = each_that (S.holds s) (λ l. each_that (λ w. S.holds s w && eqb (needs J S s l) (needs J S s w)) (eqb l))
  fact_test holds_pending = each_that (S.holds s) (pending J S s)
  fact_test holds_lock = each_that (S.holds s) (λ l. ltb 0 (needs J S s l))
  fact_test keeps = just_before s (λ r. each_that (λ l. S.holds r l && not (S.runs r l)) (S.holds s))
  fact_test goes_on = just_before s (λ r. each_that (λ l. S.runs r l && (ltb 0 (needs J S s l) && not (begins J S s l))) (S.holds s))
  fact_test asked_on = just_before s (λ r. each_that (λ l. S.asked r l && not (S.runs r l)) (S.asked s))
  fact_test not_past =
      just_before s (λ r. each_that (got_after J S r) (λ l. each_that (λ w. S.asked r w && (not (S.runs r w) && waits_for J S s w l)) (ltb l)))

  pub fact_by_test : (f : KernelFact) → fact_test f ≡ true → FactAt v J S s f
  unfolding fact_test FactAt
  fact_by_test runs_pending e = λ l h. pick_is _ _ (all_at v.n l _ e h)
  fact_by_test runs_locked e = λ l h a n. pick_is _ _ (all_at v.n l _ e h) (and_both _ _ a (lt-ltb 0 _ n))
  fact_by_test conserves e = λ l h p w a. leb-true _ _ (pick_is _ _ (all_at v.n l _ e h) (and_both _ _ p (and_both _ _ (ap not w) (ap not a))))
  fact_by_test one_holder e = λ l w h k a b n.
      let f = pick_is _ _ (all_at v.n l _ e h) a in
      eqb-true _ _ (pick_is _ _ (all_at v.n w _ f k) (and_both _ _ b (eq-eqb _ _ n)))
  fact_by_test holds_pending e = λ l h. pick_is _ _ (all_at v.n l _ e h)
  fact_by_test holds_lock e = λ l h a. ltb-true _ _ (pick_is _ _ (all_at v.n l _ e h) a)
  fact_by_test keeps e = λ r l i h a b. pick_is _ _ (all_at v.n l _ (just_before_lem s r _ e i) h) (and_both _ _ a (ap not b))
  fact_by_test goes_on e = λ r l i h a n b.
      pick_is _ _ (all_at v.n l _ (just_before_lem s r _ e i) h) (and_both _ _ a (and_both _ _ (lt-ltb 0 _ n) (ap not b)))
  fact_by_test asked_on e = λ r l i h a b. pick_is _ _ (all_at v.n l _ (just_before_lem s r _ e i) h) (and_both _ _ a (ap not b))
  fact_by_test not_past e = λ r l w i h k g a b c.
      let f = pick_is _ _ (all_at v.n l _ (just_before_lem s r _ e i) h) g in
      ltb-true _ _ (pick_is _ _ (all_at v.n w _ f k) (and_both _ _ a (and_both _ _ (ap not b) c)))
