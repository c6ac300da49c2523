-- Two tables agree on a kind of figures that a verdict reads, by a test that computes where the numbers are written out; and on all kinds, or on all but one.
-- Assumes nothing.
use Prim.Native.Nat.{ℕ, ◌-◌, ◌<◌}
use mathlib.Core.Path.{◌≡◌, refl, sym, ap, ap₂, ◌∙◌}
use mathlib.Core.Bool.{Bool, true, false, ◌&&◌, ◌||◌}
use mathlib.Core.List.{List, [], ◌∷◌}
use borrow.Author.Tests.{eqb-true, ne_eqb, lt-ltb}
use lib.Dec.{eqb, ltb, lit<}
use lib.ListN.{get_or}
use Rattle.basics.specs.Choice.{pick}
use Rattle.basics.specs.Over.{all_to}
use Rattle.basics.proofs.AllLaws.{all_at}
use Rattle.table.specs.declared.Level.{Level}
use Rattle.table.specs.Limits.{max_resources}
use Rattle.theory.specs.View.{View, level, resource, is_above, largest_below, uses}
use Rattle.theory.specs.Demand.{shared_CT, other_CT, all_CT, high_CT, units_read}
use Rattle.promises.specs.Reads.{Above, LongForm, Reads, FigureKind, processors, tasks, run, deadline, requests, period_above, deadline_above, shared, other, free, period_below, deadline_below, high, longest, AgreeOn, SameRead, SameBut, high_by, SameByFirst}
use Rattle.promises.proofs.ReadsLaws.{Fitting, above_is, read_units}

-- the second is asked where the first holds
abbrev pub when : Bool → Bool → Bool
when b c = pick b c true

pub when_true : (b c : Bool) → when b c ≡ true → b ≡ true → c ≡ true
when_true true c e h = e
when_true false c e h = cc

or_right : (a b : Bool) → (a || b) ≡ true → a ≡ false → b ≡ true
or_right true b e h = cc
or_right false b e h = e

-- ---- the figures of some tasks

-- what a table has of a task
abbrev pub Has : Type 0
Has = View → Level → ℕ

module _ (v w : View) where
  -- it is the same of each task that passes a test
  abbrev pub same_of_test : (ℕ → Bool) → Has → Bool
  same_of_test t g = all_to v.n (λ l. when (t l) (eqb (g w (level l)) (g v (level l))))

  -- a test that all tasks pass that are named
  abbrev pub Passed : (Level → Type 0) → (ℕ → Bool) → Type 0
  Passed named t = (l : ℕ) → l < v.n → named (level l) → t l ≡ true

  pub same_of : (named : Level → Type 0) (t : ℕ → Bool) → Passed named t → (g : Has) → same_of_test t g ≡ true → (l : ℕ) → l < v.n → named (level l) → g w (level l) ≡ g v (level l)
  same_of named t passed g e l h n = eqb-true _ _ (when_true _ _ (all_at v.n l _ e h) (passed l h n))

-- ---- one kind

module _ (v w : View) (i : Level) where
  -- the tasks above i and below it, and those of which units count
  abbrev is_higher : ℕ → Bool
  is_higher l = is_above (level l) i

  abbrev is_lower : ℕ → Bool
  is_lower l = is_above i (level l)

  abbrev is_read_test : ℕ → Bool
  is_read_test l = ltb 0 (units_read v i (level l))

  abbrev long : Bool → Bool
  long = when (ltb v.cpus i.0)

  abbrev free_of : Has
  free_of x l = x.C l - all_CT x l

  -- the kinds of `AgreeOn`, in its order
  unfoldable pub agrees_on : FigureKind → Bool
  agrees_on processors = eqb w.cpus v.cpus
  agrees_on tasks = eqb w.n v.n
  agrees_on run = eqb (w.C i) (v.C i)
  agrees_on deadline = eqb (w.D i) (v.D i)
  agrees_on requests = all_to max_resources (λ k. eqb (w.N i (resource k)) (v.N i (resource k)))
  agrees_on period_above = same_of_test v w (λ l. is_higher l && is_read_test l) (λ x. x.T)
  agrees_on deadline_above = same_of_test v w (λ l. is_higher l && is_read_test l) (λ x. x.D)
  agrees_on shared = same_of_test v w is_higher (λ x. shared_CT x i)
  agrees_on other = long (same_of_test v w is_higher (λ x. other_CT x i))
  agrees_on free = long (same_of_test v w is_higher free_of)
  agrees_on period_below = same_of_test v w (λ l. is_lower l && is_read_test l) (λ x. x.T)
  agrees_on deadline_below = same_of_test v w (λ l. is_lower l && is_read_test l) (λ x. x.D)
  agrees_on high = long (same_of_test v w is_lower (λ x. high_CT x i))
  agrees_on longest =
      all_to max_resources (λ k. when (uses v i (resource k)) (eqb (largest_below w i (λ l. w.c l (resource k))) (largest_below v i (λ l. v.c l (resource k)))))

  of_higher : (g : Has) → same_of_test v w is_higher g ≡ true → (l : ℕ) → l < v.n → Above (level l) i → g w (level l) ≡ g v (level l)
  of_higher = same_of v w (λ l. Above l i) is_higher (λ l h a. above_is (level l) i a)

  of_lower : (g : Has) → same_of_test v w is_lower g ≡ true → (l : ℕ) → l < v.n → Above i (level l) → g w (level l) ≡ g v (level l)
  of_lower = same_of v w (λ l. Above i l) is_lower (λ l h a. above_is i (level l) a)

  long_is : (c : Bool) → long c ≡ true → LongForm v i → c ≡ true
  long_is c e m = when_true _ c e (lt-ltb v.cpus i.0 m)

  module _ (fits : Fitting v) where
    is_read : (l : ℕ) → l < v.n → Reads v i (level l) → is_read_test l ≡ true
    is_read l h r = lt-ltb 0 _ (read_units v fits i l h r)

    read_higher : (g : Has) → same_of_test v w (λ l. is_higher l && is_read_test l) g ≡ true → (l : ℕ) → l < v.n → Above (level l) i → Reads v i (level l) → g w (level l) ≡ g v (level l)
    read_higher g e l h a r = same_of v w (λ l. Above l i × Reads v i l) _ (λ l h n. ap₂ ◌&&◌ (above_is (level l) i n.0) (is_read l h n.1)) g e l h (a, r)

    read_lower : (g : Has) → same_of_test v w (λ l. is_lower l && is_read_test l) g ≡ true → (l : ℕ) → l < v.n → Above i (level l) → Reads v i (level l) → g w (level l) ≡ g v (level l)
    read_lower g e l h a r = same_of v w (λ l. Above i l × Reads v i l) _ (λ l h n. ap₂ ◌&&◌ (above_is i (level l) n.0) (is_read l h n.1)) g e l h (a, r)

    pub agree_by : (k : FigureKind) → agrees_on k ≡ true → AgreeOn v w i k
    unfolding agrees_on AgreeOn
    agree_by processors e = eqb-true _ _ e
    agree_by tasks e = eqb-true _ _ e
    agree_by run e = eqb-true _ _ e
    agree_by deadline e = eqb-true _ _ e
    agree_by requests e = λ k r. eqb-true _ _ (all_at max_resources k _ e r)
    agree_by period_above e = read_higher (λ x. x.T) e
    agree_by deadline_above e = read_higher (λ x. x.D) e
    agree_by shared e = of_higher (λ x. shared_CT x i) e
    agree_by other e = λ m. of_higher (λ x. other_CT x i) (long_is _ e m)
    agree_by free e = λ m. of_higher free_of (long_is _ e m)
    agree_by period_below e = read_lower (λ x. x.T) e
    agree_by deadline_below e = read_lower (λ x. x.D) e
    agree_by high e = λ m. of_lower (λ x. high_CT x i) (long_is _ e m)
    agree_by longest e = λ k r u. eqb-true _ _ (when_true _ _ (all_at max_resources k _ e r) u)

-- ---- all kinds, by their numbers

abbrev kinds : List FigureKind
kinds =
    processors ∷ tasks ∷ run ∷ deadline ∷ requests ∷ period_above ∷ deadline_above ∷ shared ∷ other ∷ free ∷ period_below ∷ deadline_below ∷ high ∷ longest ∷ []

abbrev kind_at : ℕ → FigureKind
kind_at r = get_or kinds r processors

-- a number of each kind, below 14, at which it stands
unfoldable pub numbered : (k : FigureKind) → (r : ℕ) × (r < 14) × (kind_at r ≡ k)
numbered processors = (0, lit< tt, refl)
numbered tasks = (1, lit< tt, refl)
numbered run = (2, lit< tt, refl)
numbered deadline = (3, lit< tt, refl)
numbered requests = (4, lit< tt, refl)
numbered period_above = (5, lit< tt, refl)
numbered deadline_above = (6, lit< tt, refl)
numbered shared = (7, lit< tt, refl)
numbered other = (8, lit< tt, refl)
numbered free = (9, lit< tt, refl)
numbered period_below = (10, lit< tt, refl)
numbered deadline_below = (11, lit< tt, refl)
numbered high = (12, lit< tt, refl)
numbered longest = (13, lit< tt, refl)

module _ (v w : View) (i : Level) where
  abbrev pub is_same_test : Bool
  is_same_test = all_to 14 (λ r. agrees_on v w i (kind_at r))

  -- all but the kind of that number
  abbrev pub is_same_but : ℕ → Bool
  is_same_but s = all_to 14 (λ r. eqb r s || agrees_on v w i (kind_at r))

  pub same_by : Fitting v → is_same_test ≡ true → SameRead v w i
  same_by fits e k =
      let n = numbered k in
      agree_by v w i fits k (rw n.2 at (all_at 14 n.0 _ e n.1))

  -- where the number is another's, so is the kind
  pub same_but_by : Fitting v → (k : FigureKind) → is_same_but (numbered k).0 ≡ true → SameBut k v w i
  same_but_by fits k e j d =
      let n = numbered j in
      let m = numbered k in
      let apart : eqb n.0 m.0 ≡ false = ne_eqb n.0 m.0 (λ q. d (sym n.2 ∙ ap kind_at q ∙ m.2)) in
      agree_by v w i fits j (rw n.2 at (or_right _ _ (all_at 14 n.0 _ e n.1) apart))

  pub same_by_first : Fitting v → is_same_but (numbered high).0 ≡ true → long v w i (same_of_test v w (is_lower v w i) (λ x. high_by v x i)) ≡ true → SameByFirst v w i
  same_by_first fits e f = (same_but_by fits high e, λ m. of_lower v w i (λ x. high_by v x i) (long_is v w i _ f m))
