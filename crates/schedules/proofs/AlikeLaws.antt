-- Two instants of a run that are alike: the same tasks run, hold and ask, and each is at a unit like the other's. What holds at the one, holds at the other.
-- Assumes nothing.
use Prim.Native.Nat.{ℕ, suc, ◌<◌}
use mathlib.Core.Path.{◌≡◌, refl, sym, ap, subst, ◌∙◌}
use mathlib.Core.Bool.{Bool, ◌||◌}
use native.Mathlib.Omega.{arith}
use lib.Dec.{ltb, eqb}
use Rattle.basics.specs.Over.{count_to}
use Rattle.basics.proofs.SumLaws.{sum_eq}
use Rattle.basics.proofs.FirstIndexLaws.{first_eq}
use Rattle.theory.specs.View.{View}
use Rattle.schedules.specs.Jobs.{JobSet}
use Rattle.schedules.specs.Schedule.{Schedule, pending, needs, begins, waits_for, waits, priority, ahead, got_after, KernelFact, FactAt}
use Rattle.schedules.specs.Schedule.KernelFact.{runs_pending, runs_locked, conserves, one_holder, holds_pending, holds_lock, keeps, goes_on, asked_on, not_past}

module _ (v : View) (J : JobSet) (S : Schedule) where
  pub record Alike (s t : ℕ) : Type 0 where
    pub runs : (l : ℕ) → S.runs t l ≡ S.runs s l
    pub holds : (l : ℕ) → S.holds t l ≡ S.holds s l
    pub asked : (l : ℕ) → S.asked t l ≡ S.asked s l
    pub pending : (l : ℕ) → l < v.n → pending J S t l ≡ pending J S s l
    pub needs : (l : ℕ) → l < v.n → needs J S t l ≡ needs J S s l
    pub begins : (l : ℕ) → l < v.n → begins J S t l ≡ begins J S s l

  module _ (s t : ℕ) (a : Alike s t) where
    waits_for_alike : (w l : ℕ) → w < v.n → l < v.n → waits_for J S t w l ≡ waits_for J S s w l
    waits_for_alike w l h k = rw (a.asked w, a.holds w, a.holds l, a.needs w h, a.needs l k)

    waits_alike : (l : ℕ) → l < v.n → waits v J S t l ≡ waits v J S s l
    waits_alike l h = ap (λ (f : ℕ). ltb f v.n) (first_eq v.n _ _ (λ w k. waits_for_alike l w h k))

    priority_alike : (l : ℕ) → l < v.n → priority v J S t l ≡ priority v J S s l
    unfolding priority
    priority_alike l h = first_eq v.n _ _ (λ w k. ap (λ (b : Bool). eqb w l || b) (waits_for_alike w l k h))

    -- those that run and are no lower
    ahead_alike : (l : ℕ) → l < v.n
        → count_to v.n (ahead v J S t l) ≡ count_to v.n (ahead v J S s l)
    ahead_alike l h = sum_eq v.n _ _ (λ k m. rw (a.runs k, priority_alike k m, priority_alike l h))

  got_alike : (q r l : ℕ) → Alike q r → Alike (suc q) (suc r) → l < v.n → got_after J S r l ≡ got_after J S q l
  unfolding got_after
  got_alike q r l b a h = rw (b.runs l, a.begins l h, b.holds l)

  -- the instants before them are alike too, for the facts that speak of those
  module _ (q r : ℕ) (b : Alike q r) (a : Alike (suc q) (suc r)) where
    alike_before : (m : ℕ) → suc r ≡ suc m → Alike q m
    alike_before m e = let d : r ≡ m = omega arith in subst (λ (k : ℕ). Alike q k) d b

    got_before : (m l : ℕ) → suc r ≡ suc m → l < v.n → got_after J S m l ≡ got_after J S q l
    got_before m l e h = got_alike q m l (alike_before m e) (subst (λ (k : ℕ). Alike (suc q) k) e a) h

    pub fact_alike : (f : KernelFact) → FactAt v J S (suc q) f → FactAt v J S (suc r) f
    unfolding FactAt
    fact_alike runs_pending f = λ l h x. a.pending l h ∙ f l h (sym (a.runs l) ∙ x)
    fact_alike runs_locked f = λ l h x y. a.holds l ∙ f l h (sym (a.runs l) ∙ x) (rw (← a.needs l h) y)
    fact_alike conserves f =
        λ l h x y z. rw (ahead_alike (suc q) (suc r) a l h) (f l h (sym (a.pending l h) ∙ x) (sym (waits_alike (suc q) (suc r) a l h) ∙ y) (sym (a.runs l) ∙ z))
    fact_alike one_holder f = λ l w h k x y e. f l w h k (sym (a.holds l) ∙ x) (sym (a.holds w) ∙ y) (sym (a.needs l h) ∙ e ∙ a.needs w k)
    fact_alike holds_pending f = λ l h x. a.pending l h ∙ f l h (sym (a.holds l) ∙ x)
    fact_alike holds_lock f = λ l h x. rw (a.needs l h) (f l h (sym (a.holds l) ∙ x))
    fact_alike keeps f = λ m l e h x y. let c = alike_before m e in a.holds l ∙ f q l refl h (sym (c.holds l) ∙ x) (sym (c.runs l) ∙ y)
    fact_alike goes_on f = λ m l e h x y z. let c = alike_before m e in a.holds l ∙ f q l refl h (sym (c.runs l) ∙ x) (rw (← a.needs l h) y) (sym (a.begins l h) ∙ z)
    fact_alike asked_on f = λ m l e h x y. let c = alike_before m e in a.asked l ∙ f q l refl h (sym (c.asked l) ∙ x) (sym (c.runs l) ∙ y)
    fact_alike not_past f =
        λ m l w e h k x y z u.
        let c = alike_before m e in
        f q l w refl h k (sym (got_before m l e h) ∙ x) (sym (c.asked w) ∙ y) (sym (c.runs w) ∙ z) (sym (waits_for_alike (suc q) (suc r) a w l k h) ∙ u)
