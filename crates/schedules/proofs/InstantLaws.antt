-- What holds at an instant at which a job that is released and unfinished does not run.
-- Assumes nothing.
use Prim.Native.Nat.{ℕ, ◌≤◌, ◌<◌, zero-le}
use mathlib.Core.Path.{◌≡◌, refl, sym, subst, ◌∙◌}
use mathlib.Core.Bool.{Bool, true, false, ◌&&◌, ◌||◌}
use native.Mathlib.Nat.{le_refl, le_trans}
use native.Mathlib.Decide.{dec_lt}
use native.Mathlib.Omega.{arith}
use borrow.Author.Tests.{eq-eqb, ltb-true, lt-ltb, ltb-false, leb-true}
use lib.Dec.{eqb, ltb, leb}
use Rattle.basics.specs.Choice.{only}
use Rattle.basics.specs.Over.{count_to, first_to}
use Rattle.basics.proofs.ChoiceLaws.{and_true}
use Rattle.basics.proofs.OnceLaws.{both}
use Rattle.basics.proofs.SumLaws.{sum_le}
use Rattle.basics.proofs.FirstIndexLaws.{First, first_is}
use Rattle.theory.specs.View.{View}
use Rattle.schedules.specs.Jobs.{JobSet}
use Rattle.schedules.specs.Schedule.{Schedule, pending, waits_for, waits, lends, priority}
use Rattle.schedules.proofs.FactLaws.{Obeys, waits_for_lem}
use Rattle.schedules.proofs.TallyLaws.{count_into}
use Rattle.schedules.proofs.LentLaws.{lent}

pub or_first : (a b : Bool) → a ≡ true → (a || b) ≡ true
or_first a b e = rw e

pub or_second : (a b : Bool) → b ≡ true → (a || b) ≡ true
or_second true b e = refl
or_second false b e = e

module _ (v : View) (J : JobSet) (S : Schedule) (s : ℕ) where
  -- who waits does so for one that holds the lock
  pub waited : (i : ℕ) → waits v J S s i ≡ true → (h : ℕ) × (h < v.n) × (waits_for J S s i h ≡ true)
  waited i e = let m = ltb-true (first_to v.n (waits_for J S s i)) v.n e in (first_to v.n (waits_for J S s i), m, (first_is v.n (waits_for J S s i)).found m)

  -- who holds its lock does not wait
  holder_free : (h : ℕ) → S.holds s h ≡ true → (b : Bool) → waits v J S s h ≡ b → b ≡ false
  holder_free h e true w = let x = waited h w in both e (waits_for_lem J S s h x.0 x.2).lacking
  holder_free h e false w = refl

  own_lends : (l : ℕ) → lends J S s l l ≡ true
  own_lends l = or_first (eqb l l) _ (eq-eqb l l refl)

  waiter_lends : (l w : ℕ) → waits_for J S s w l ≡ true → lends J S s l w ≡ true
  waiter_lends l w e = or_second (eqb w l) _ e

  -- a priority is no lower than the task's own, nor than that of one who waits for its lock; and it is one of these
  priority_le : (l w : ℕ) → w < v.n → lends J S s l w ≡ true → priority v J S s l ≤ w
  unfolding priority
  priority_le l w h e = go (dec_lt w (first_to v.n (lends J S s l)))
    where
      f : First v.n (lends J S s l) (first_to v.n (lends J S s l))
      f = first_is v.n (lends J S s l)

      go : Dec (w < first_to v.n (lends J S s l)) → first_to v.n (lends J S s l) ≤ w
      go (yes d) = both e (f.clear w d)
      go (no d) = omega arith

  own_priority : (l : ℕ) → l < v.n → priority v J S s l ≤ l
  own_priority l h = priority_le l l h (own_lends l)

  pub priority_from : (l : ℕ) → l < v.n → lends J S s l (priority v J S s l) ≡ true
  unfolding priority
  priority_from l h = (first_is v.n (lends J S s l)).found (omega (arith, low))
    where
      low : first_to v.n (lends J S s l) ≤ l
      low = own_priority l h

  -- it runs at a priority above i
  abbrev pub over : ℕ → ℕ → Bool
  over i h = S.runs s h && ltb (priority v J S s h) i

  -- m that run and are no lower than k are above i, if k is no lower than i and none of them is at i itself
  over_le : (i k : ℕ) → k ≤ i → ((g : ℕ) → g < v.n → S.runs s g ≡ true → priority v J S s g ≡ i → ⊥)
      → v.cpus ≤ count_to v.n (λ h. S.runs s h && leb (priority v J S s h) k) → v.cpus ≤ count_to v.n (over i)
  over_le i k h tie c =
      le_trans c (sum_le v.n (λ g. only (S.runs s g && leb (priority v J S s g) k) 1) (λ g. only (over i g) 1)
      (λ g l. more (S.runs s g) (priority v J S s g) (leb (priority v J S s g) k) refl (λ e. tie g l e)))
    where
      more : (a : Bool) (q : ℕ) (b : Bool) → leb q k ≡ b → (a ≡ true → q ≡ i → ⊥) → only (a && b) 1 ≤ only (a && ltb q i) 1
      more true q true e t = let z = lt-ltb q i (omega (arith, leb-true q k e, t refl)) in rw z (le_refl 1)
      more true q false e t = zero-le
      more false q b e t = zero-le

  pub data Why (i : ℕ) : Type 0 where
    busy : v.cpus ≤ count_to v.n (λ h. over i h) → Why i
    held : (h : ℕ) → h < v.n → waits_for J S s i h ≡ true → S.runs s h ≡ true → (h ≡ i → ⊥) → Why i

  module _ (E : ℕ) (p : Obeys v J S E) (b : s < E) where
    -- one lock has one holder
    same_holder : (i g h : ℕ) → g < v.n → h < v.n → waits_for J S s i g ≡ true → waits_for J S s i h ≡ true → g ≡ h
    same_holder i g h k m x y =
        let c = waits_for_lem J S s i g x in
        let f = waits_for_lem J S s i h y in
        p.one_at_a_time s g h b k m c.holding f.holding (sym c.needing ∙ f.needing)

    -- who runs waits for nothing
    runs_free : (l h : ℕ) → l < v.n → h < v.n → S.runs s l ≡ true → waits_for J S s l h ≡ true → ⊥
    runs_free l h k m r e =
        let f = waits_for_lem J S s l h e in
        both (p.locks s l b k r (subst (λ (x : ℕ). 0 < x) (sym f.needing) (p.holder_needs s h b m f.holding))) f.lacking

    -- a job that is there and does not run: m run above it, or the holder of its lock runs
    pub why : (i : ℕ) → i < v.n → pending J S s i ≡ true → S.runs s i ≡ false → Why i
    why i l r n = go (waits v J S s i) refl
      where
        -- who runs at priority i has it from i, which does not run
        no_tie : ((g : ℕ) → g < v.n → S.runs s g ≡ true → waits_for J S s i g ≡ true → ⊥) → (g : ℕ) → g < v.n → S.runs s g ≡ true → priority v J S s g ≡ i → ⊥
        no_tie f g k a z =
            let q : lends J S s g i ≡ true = subst (λ (x : ℕ). lends J S s g x ≡ true) z (priority_from g k) in
            lent v J S s g i q ⊥ (λ x. both (subst (λ (y : ℕ). S.runs s y ≡ true) (sym x) a) n) (λ x. f g k a x)

        none : waits v J S s i ≡ false → (g : ℕ) → g < v.n → waits_for J S s i g ≡ true → ⊥
        none w g k x = both x ((first_is v.n (waits_for J S s i)).clear g (omega (arith, ltb-false (first_to v.n (waits_for J S s i)) v.n w)))

        lower : (h : ℕ) → h < v.n → waits_for J S s i h ≡ true → (c : Bool) → S.runs s h ≡ c → Why i
        lower h m e true x = held h m e x (λ z. both (waits_for_lem J S s i h e).holding (subst (λ (y : ℕ). S.holds s y ≡ false) (sym z) (waits_for_lem J S s i h e).lacking))
        lower h m e false x =
            let f = waits_for_lem J S s i h e in
            busy (over_le i (priority v J S s h) (priority_le h i l (waiter_lends h i e))
            (no_tie (λ g k a y. both (subst (λ (z : ℕ). S.runs s z ≡ true) (same_holder i g h k m y e) a) x))
            (p.conserved s h b m (p.holder_there s h b m f.holding) (holder_free h f.holding (waits v J S s h) refl) x))

        go : (c : Bool) → waits v J S s i ≡ c → Why i
        go true e = let w = waited i e in lower w.0 w.1 w.2 (S.runs s w.0) refl
        go false e = busy (over_le i (priority v J S s i) (own_priority i l) (no_tie (λ g k a x. none e g k x)) (p.conserved s i b l r e n))

    -- no two that run have one priority, so at most i of them are above i
    pub above_most : (i : ℕ) → count_to v.n (λ h. over i h) ≤ i
    above_most i = count_into v.n i (λ h. over i h) (priority v J S s) (λ h l e. ltb-true _ _ (and_true (S.runs s h) _ e).1) apart
      where
        apart : (h g : ℕ) → h < v.n → g < v.n → over i h ≡ true → over i g ≡ true → priority v J S s h ≡ priority v J S s g → h ≡ g
        apart h g l m a c e =
            let rh = (and_true (S.runs s h) _ a).0 in
            let rg = (and_true (S.runs s g) _ c).0 in
            let fg : lends J S s g (priority v J S s h) ≡ true = rw e (priority_from g m) in
            lent v J S s h (priority v J S s h) (priority_from h l) (h ≡ g)
            (λ x. lent v J S s g (priority v J S s h) fg (h ≡ g) (λ y. sym x ∙ y) (λ y. absurd (runs_free h g l m rh (subst (λ (z : ℕ). waits_for J S s z g ≡ true) x y))))
            (λ x. lent v J S s g (priority v J S s h) fg (h ≡ g) (λ y. absurd (runs_free g h m l rg (subst (λ (z : ℕ). waits_for J S s z h ≡ true) y x))) (λ y. same_holder (priority v J S s h) h g l m x y))
