-- The facts of a run, each by its name, at the instants before its end.
-- Assumes nothing.
use Prim.Native.Nat.{ℕ, suc, ◌≤◌, ◌<◌}
use mathlib.Core.Path.{◌≡◌, refl}
use mathlib.Core.Bool.{true, false, not, ◌&&◌}
use borrow.Author.Tests.{eqb-true}
use lib.Dec.{eqb}
use Rattle.basics.specs.Over.{count_to}
use Rattle.basics.proofs.ChoiceLaws.{stops, and_true}
use Rattle.theory.specs.View.{View}
use Rattle.schedules.specs.Jobs.{JobSet}
use Rattle.schedules.specs.Schedule.{Schedule, pending, needs, begins, waits_for, waits, ahead, got_after, runs_pending, runs_locked, conserves, one_holder, holds_pending, holds_lock, keeps, goes_on, asked_on, not_past, FactAt, UnderPIP}

pub record Obeys (v : View) (J : JobSet) (S : Schedule) (E : ℕ) : Type 0 where
  pub runs_there : (s l : ℕ) → s < E → l < v.n → S.runs s l ≡ true → pending J S s l ≡ true
  pub locks : (s l : ℕ) → s < E → l < v.n → S.runs s l ≡ true → 0 < needs J S s l → S.holds s l ≡ true
  pub conserved : (s l : ℕ) → s < E → l < v.n → pending J S s l ≡ true → waits v J S s l ≡ false → S.runs s l ≡ false → v.cpus ≤ count_to v.n (ahead v J S s l)
  pub one_at_a_time : (s l w : ℕ) → s < E → l < v.n → w < v.n → S.holds s l ≡ true → S.holds s w ≡ true → needs J S s l ≡ needs J S s w → l ≡ w
  pub holder_there : (s l : ℕ) → s < E → l < v.n → S.holds s l ≡ true → pending J S s l ≡ true
  pub holder_needs : (s l : ℕ) → s < E → l < v.n → S.holds s l ≡ true → 0 < needs J S s l
  pub kept : (s l : ℕ) → suc s < E → l < v.n → S.holds s l ≡ true → S.runs s l ≡ false → S.holds (suc s) l ≡ true
  pub kept_on : (s l : ℕ) → suc s < E → l < v.n → S.runs s l ≡ true → 0 < needs J S (suc s) l → begins J S (suc s) l ≡ false → S.holds (suc s) l ≡ true
  pub asks_on : (s l : ℕ) → suc s < E → l < v.n → S.asked s l ≡ true → S.runs s l ≡ false → S.asked (suc s) l ≡ true
  pub not_passed : (s l w : ℕ) → suc s < E → l < v.n → w < v.n → got_after J S s l ≡ true → S.asked s w ≡ true → S.runs s w ≡ false → waits_for J S (suc s) w l ≡ true → l < w

pub obeys : (v : View) (J : JobSet) (S : Schedule) (E : ℕ) → UnderPIP v J S E → Obeys v J S E
unfolding FactAt
obeys v J S E p =
    record {
      runs_there = λ s l e. p s e runs_pending l;
      locks = λ s l e. p s e runs_locked l;
      conserved = λ s l e. p s e conserves l;
      one_at_a_time = λ s l w e. p s e one_holder l w;
      holder_there = λ s l e. p s e holds_pending l;
      holder_needs = λ s l e. p s e holds_lock l;
      kept = λ s l e. p (suc s) e keeps s l refl;
      kept_on = λ s l e. p (suc s) e goes_on s l refl;
      asks_on = λ s l e. p (suc s) e asked_on s l refl;
      not_passed = λ s l w e. p (suc s) e not_past s l w refl;
    }

-- what it is to wait for the lock that h holds
pub record WaitsFor (J : JobSet) (S : Schedule) (s i h : ℕ) : Type 0 where
  pub asking : S.asked s i ≡ true
  pub lacking : S.holds s i ≡ false
  pub holding : S.holds s h ≡ true
  pub needing : needs J S s i ≡ needs J S s h

pub waits_for_lem : (J : JobSet) (S : Schedule) (s i h : ℕ) → waits_for J S s i h ≡ true → WaitsFor J S s i h
waits_for_lem J S s i h e =
    let a = and_true (S.asked s i && not (S.holds s i)) (S.holds s h && eqb (needs J S s i) (needs J S s h)) e in
    let b = and_true (S.asked s i) (not (S.holds s i)) a.0 in
    let c = and_true (S.holds s h) (eqb (needs J S s i) (needs J S s h)) a.1 in
    record { asking = b.0; lacking = stops refl b.1; holding = c.0; needing = eqb-true _ _ c.1 }
