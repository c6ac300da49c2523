-- A constrained system, and lengths that cover the demands of some of its tasks, by tests that compute where the figures are written out.
-- Assumes nothing.
use Prim.Native.Nat.{ℕ}
use mathlib.Core.Path.{◌≡◌}
use mathlib.Core.Bool.{Bool, true}
use mathlib.Core.List.{List, [], ◌∷◌}
use borrow.Author.Tests.{eqb-true, eq-eqb, leb-true}
use lib.Dec.{T, eqb, ltb, leb, lit<}
use lib.ListN.{get_or}
use Rattle.basics.specs.Choice.{pick}
use Rattle.basics.specs.Over.{all_to}
use Rattle.basics.proofs.AllLaws.{all_at}
use Rattle.basics.proofs.OnceLaws.{pick_is}
use Rattle.table.specs.declared.Level.{Level}
use Rattle.table.specs.Limits.{max_resources}
use Rattle.theory.specs.View.{View, level, resource}
use Rattle.theory.specs.Demand.{all_CT}
use Rattle.schedules.specs.Theorem.{Constrained, Covers}

module _ (v : View) where
  -- the rules of `Constrained`, in its order
  unfoldable pub constrained_rules : List Bool
  constrained_rules =
      leb 1 v.cpus
      ∷ all_to v.n (λ l. leb 1 (v.T (level l)))
      ∷ all_to v.n (λ l. leb (v.C (level l)) (v.D (level l)))
      ∷ all_to v.n (λ l. leb (v.D (level l)) (v.T (level l)))
      ∷ all_to v.n (λ l. leb (all_CT v (level l)) (v.C (level l)))
      ∷ all_to v.n (λ l. all_to max_resources (λ k. pick (eqb (v.N (level l) (resource k)) 0) (eqb (v.CT (level l) (resource k)) 0) true))
      ∷ []

  abbrev pub constrained_test : Bool
  constrained_test = all_to 6 (λ r. get_or constrained_rules r true)

  pub constrained_by_test : constrained_test ≡ true → Constrained v
  unfolding constrained_rules
  constrained_by_test e =
      let rule : (r : ℕ) → T (ltb r 6) → get_or constrained_rules r true ≡ true = λ r h. all_at 6 r _ e (lit< h) in
      record {
        some = leb-true _ _ (rule 0 tt);
        positive = λ l h. leb-true _ _ (all_at v.n l _ (rule 1 tt) h);
        run = λ l h. leb-true _ _ (all_at v.n l _ (rule 2 tt) h);
        deadline = λ l h. leb-true _ _ (all_at v.n l _ (rule 3 tt) h);
        totals = λ l h. leb-true _ _ (all_at v.n l _ (rule 4 tt) h);
        unused = λ l k h i e. eqb-true _ _ (pick_is _ _ (all_at max_resources k _ (all_at v.n l _ (rule 5 tt) h) i) (eq-eqb _ _ e));
      }

  module _ (demand : View → Level → ℕ → ℕ) (x : ℕ → Bool) (R : ℕ → ℕ) where
    -- the rules of `Covers`, in its order
    unfoldable pub covers_rules : List Bool
    covers_rules =
        all_to v.n (λ i. pick (x i) (leb 1 (R i)) true)
        ∷ all_to v.n (λ i. pick (x i) (leb (R i) (v.D (level i))) true)
        ∷ all_to v.n (λ i. pick (x i) (leb (demand v (level i) (R i)) (R i)) true)
        ∷ []

    abbrev pub covers_test : Bool
    covers_test = all_to 3 (λ r. get_or covers_rules r true)

    pub covers_by_test : covers_test ≡ true → Covers demand v (λ i. x i ≡ true) R
    unfolding covers_rules
    covers_by_test e =
        let rule : (r : ℕ) → T (ltb r 3) → get_or covers_rules r true ≡ true = λ r h. all_at 3 r _ e (lit< h) in
        record {
          low = λ i h y. leb-true _ _ (pick_is _ _ (all_at v.n i _ (rule 0 tt) h) y);
          high = λ i h y. leb-true _ _ (pick_is _ _ (all_at v.n i _ (rule 1 tt) h) y);
          covers = λ i h y. leb-true _ _ (pick_is _ _ (all_at v.n i _ (rule 2 tt) h) y);
        }
