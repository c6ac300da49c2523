-- A run on a kernel, of the right kind or another, by tests that compute where it is written out up to its end.
-- Assumes nothing.
use Prim.Native.Nat.{ℕ, ◌<◌}
use mathlib.Core.Path.{◌≡◌, refl, sym, subst, ap, ◌∙◌}
use mathlib.Core.Bool.{Bool, true, false, not, ◌&&◌, ◌||◌}
use mathlib.Core.List.{List, [], ◌∷◌}
use borrow.Author.Tests.{ne_eqb, leb-true}
use lib.Dec.{eqb, leb, lit<}
use lib.ListN.{get_or}
use Rattle.basics.specs.Choice.{pick}
use Rattle.basics.specs.Over.{all_to, count_to}
use Rattle.basics.proofs.AllLaws.{all_at}
use Rattle.basics.proofs.OnceLaws.{pick_is, and_both}
use Rattle.theory.specs.View.{View}
use Rattle.schedules.specs.Jobs.{JobSet}
use Rattle.schedules.specs.Schedule.{Schedule, pending, waits, KernelFact, runs_pending, runs_locked, conserves, one_holder, holds_pending, holds_lock, keeps, goes_on, asked_on, not_past, UnderPIP}
use Rattle.schedules.specs.Wrong.{UnderPIPBut, OtherKernel, ahead_in, UnderOther}
use Rattle.schedules.proofs.FactsByTest.{fact_test, fact_by_test}

abbrev kernel_facts : List KernelFact
kernel_facts = runs_pending ∷ runs_locked ∷ conserves ∷ one_holder ∷ holds_pending ∷ holds_lock ∷ keeps ∷ goes_on ∷ asked_on ∷ not_past ∷ []

abbrev kernel_fact_at : ℕ → KernelFact
kernel_fact_at r = get_or kernel_facts r runs_pending

-- a number of each, below 10, at which it stands
unfoldable pub fact_number : (f : KernelFact) → (r : ℕ) × (r < 10) × (kernel_fact_at r ≡ f)
fact_number runs_pending = (0, lit< tt, refl)
fact_number runs_locked = (1, lit< tt, refl)
fact_number conserves = (2, lit< tt, refl)
fact_number one_holder = (3, lit< tt, refl)
fact_number holds_pending = (4, lit< tt, refl)
fact_number holds_lock = (5, lit< tt, refl)
fact_number keeps = (6, lit< tt, refl)
fact_number goes_on = (7, lit< tt, refl)
fact_number asked_on = (8, lit< tt, refl)
fact_number not_past = (9, lit< tt, refl)

or_else : (a b : Bool) → (a || b) ≡ true → a ≡ false → b ≡ true
or_else true b e h = cc
or_else false b e h = e

module _ (v : View) (J : JobSet) (S : Schedule) (E : ℕ) where
  -- all facts
  abbrev pub pip_test : Bool
  pip_test = all_to E (λ s. all_to 10 (λ r. fact_test v J S s (kernel_fact_at r)))

  pub pip_by_test : pip_test ≡ true → UnderPIP v J S E
  pip_by_test e s h f =
      let n = fact_number f in
      fact_by_test v J S s f (subst (λ (g : KernelFact). fact_test v J S s g ≡ true) n.2 (all_at 10 n.0 (λ r. fact_test v J S s (kernel_fact_at r)) (all_at E s _ e h) n.1))

  -- all but one
  abbrev pub but_test : KernelFact → Bool
  but_test g = all_to E (λ s. all_to 10 (λ r. eqb r (fact_number g).0 || fact_test v J S s (kernel_fact_at r)))

  pub but_by_test : (g : KernelFact) → but_test g ≡ true → UnderPIPBut g v J S E
  but_by_test g e s h f d =
      let n = fact_number f in
      let m = fact_number g in
      -- where the fact is another, so is its number
      let apart : eqb n.0 m.0 ≡ false = ne_eqb n.0 m.0 (λ q. d (sym n.2 ∙ ap kernel_fact_at q ∙ m.2)) in
      let each = all_at 10 n.0 (λ r. eqb r m.0 || fact_test v J S s (kernel_fact_at r)) (all_at E s _ e h) n.1 in
      fact_by_test v J S s f (subst (λ (g : KernelFact). fact_test v J S s g ≡ true) n.2 (or_else _ _ each apart))

  -- all but `conserves`, and another in its place
  abbrev pub other_test : OtherKernel → Bool
  other_test o = all_to E (λ s. all_to v.n (λ l. pick (pending J S s l && (not (waits v J S s l) && not (S.runs s l))) (leb v.cpus (count_to v.n (ahead_in o v J S s l))) true))

  pub other_by_test : (o : OtherKernel) → but_test conserves ≡ true → other_test o ≡ true → UnderOther o v J S E
  other_by_test o e f =
      record {
        others = but_by_test conserves e;
        conserved = λ s l h k p w r. leb-true _ _ (pick_is _ _ (all_at v.n l _ (all_at E s _ f h) k) (and_both _ _ p (and_both _ _ (ap not w) (ap not r))));
      }
