-- What the fields of a `use` line call for is what its rules from 3 on refuse with.
-- Assumes nothing.
use Prim.Native.Nat.{ℕ, ◌+◌}
use mathlib.Core.Path.{◌≡◌, refl}
use mathlib.Core.Bool.{Bool, true, ◌&&◌}
use mathlib.Core.List.{List}
use native.Mathlib.Omega.{arith}
use borrow.Author.Tests.{ltb-true, lt-ltb, le-ltb}
use lib.Dec.{ltb}
use Rattle.std.specs.Prelude.{Option}
use Rattle.basics.specs.Choice.{within}
use Rattle.basics.specs.Exactly.{◌exactly_if◌}
use Rattle.basics.proofs.ChoiceLaws.{and_true}
use Rattle.table.specs.declared.Pair.{Pair}
use Rattle.table.specs.declared.Fault.TheVariants.{BadField, OutOfRange, NotRising, BadTotals}
use Rattle.table.specs.Faults.{Checked}
use Rattle.table.specs.Limits.{max_resources}
use Rattle.table.specs.At.{a_pair}
use Rattle.table.specs.Faults.{Refuses, ◌then◌, unless}
use Rattle.table.specs.Rules.{used_in_range, totals_fit}
use Rattle.table.specs.Refusals.{InRange, UsedInRange}
use Rattle.table.proofs.Deciding.{is_rule, from_rule, from_two, by_first, fails, failing}
use Rattle.table.proofs.RuleFacts.{range_is, used_range_is, totals_fit_is}
use Rattle.table.proofs.RuleLaws.{unless_fine}
use Rattle.field.specs.declared.Field.{Field}
use Rattle.field.specs.declared.Rounding.TheVariants.{Up}
use Rattle.field.specs.Number.{first, time_field, count_field}
use Rattle.line.specs.declared.Past.{Past}
use Rattle.line.specs.Line.{formed, value}
use Rattle.line.specs.Stated.{UseFigures, StatesUse, held_pair}
use Rattle.line.specs.Refusals.{UseLineCalls}
use Rattle.line.proofs.StatedLaws.{formed_states, count_in_lem, time_in_lem, count_stated, time_stated}

-- ---- `use K N c CT`

-- 4, of K and of the pair
in_range : (K : ℕ) (p : Pair) → ((within 1 max_resources K && used_in_range p) ≡ true) exactly_if (InRange 1 max_resources K × UsedInRange p)
in_range K p = (
  λ e. let h = and_true (within 1 max_resources K) (used_in_range p) e in ((range_is 1 max_resources K).0 h.0, (used_range_is p).0 h.1),
  λ g. rw ((range_is 1 max_resources K).1 g.0, (used_range_is p).1 g.1),
)

module _ (past : Past) (n : ℕ) {k r c ct : List ℕ} (a : first k ≡ k) (b : first r ≡ r) (e : first c ≡ c) (f : first ct ≡ ct) where
  abbrev K : Option Field
  K = count_field k

  abbrev N : Option Field
  N = count_field r

  abbrev longest : Option Field
  longest = time_field Up c

  abbrev CT : Option Field
  CT = time_field Up ct

  abbrev p : Pair
  p = a_pair (value N) (value longest) (value CT)

  abbrev use_formed : Bool
  use_formed = formed K && formed N && formed longest && formed CT

  abbrev use_range : Bool
  use_range = within 1 max_resources (value K) && used_in_range p

  abbrev use_totals : Bool
  use_totals = totals_fit p (past.sum + value CT) past.run

  abbrev pub use_check : Checked
  use_check = unless use_formed BadField n then unless use_range OutOfRange n then unless (ltb past.last.0 (value K)) NotRising n then unless use_totals BadTotals n

  abbrev UseCalls : ℕ → ℕ → Type 0
  UseCalls q place = UseLineCalls past k r c ct q × (n ≡ place)

  -- the figures that the fields state are those that are read
  abbrev figures : ℕ × ℕ → UseFigures
  figures typed = record { K = value K; N = value N; c = record { typed = typed.0; held = value longest }; CT = record { typed = typed.1; held = value CT } }

  use_stated : use_formed ≡ true → (typed : ℕ × ℕ) × StatesUse k r c ct (figures typed)
  use_stated g =
      let d = and_true (formed K && formed N && formed longest) (formed CT) g in
      let h = and_true (formed K && formed N) (formed longest) d.0 in
      let i = and_true (formed K) (formed N) h.0 in
      let x = time_in_lem e Up (formed_states longest h.1) in
      let y = time_in_lem f Up (formed_states CT d.1) in (
        (x.typed, y.typed),
        record { resource = count_in_lem a (formed_states K i.0); requests = count_in_lem b (formed_states N i.1); longest = x.states; total = y.states },
      )

  use_formed_lem : {u : UseFigures} → StatesUse k r c ct u → use_formed ≡ true
  use_formed_lem s = rw ((count_stated s.resource).is, (count_stated s.requests).is, (time_stated s.longest).is, (time_stated s.total).is)

  pub use_calls : (q place : ℕ) → Refuses use_check q place → UseCalls q place
  use_calls q place =
      let rising = unless (ltb past.last.0 (value K)) NotRising n in
      let totals = unless use_totals BadTotals n in
      from_two (unless use_formed BadField n) (unless use_range OutOfRange n then rising then totals) q place
      (from_rule UseCalls use_formed BadField n q place (λ x. (UseLineCalls.bad_field (λ u s. fails _ (λ (s : StatesUse k r c ct u). use_formed_lem s) x s), refl)))
      (λ g.
      let s = (use_stated (unless_fine _ BadField n g)).1 in
      from_two (unless use_range OutOfRange n) (rising then totals) q place
      (from_rule UseCalls use_range OutOfRange n q place (λ x. (UseLineCalls.out_of_range s (fails _ (in_range (value K) p).1 x), refl)))
      (λ h.
      let i = (in_range (value K) p).0 (unless_fine _ OutOfRange n h) in
      from_two rising totals q place
      (from_rule UseCalls (ltb past.last.0 (value K)) NotRising n q place
      (λ x. (UseLineCalls.not_rising s i.0 i.1 (omega (arith, fails _ (lt-ltb past.last.0 (value K)) x)), refl)))
      (λ j. from_rule UseCalls use_totals BadTotals n q place
      (λ x. (UseLineCalls.bad_totals s i.0 i.1 (ltb-true _ _ (unless_fine _ NotRising n j)) (fails _ (totals_fit_is p (past.sum + value CT) past.run).1 x), refl)))))

  pub use_given : {q : ℕ} → UseLineCalls past k r c ct q → Refuses use_check q n
  use_given (UseLineCalls.bad_field h) = by_first _ _ 3 n (is_rule use_formed BadField n (failing use_formed use_stated (λ s. h _ s.1)))
  use_given (UseLineCalls.out_of_range {u} s h) =
      rw ((count_stated s.resource).is, (count_stated s.requests).is, (time_stated s.longest).is, (time_stated s.total).is)
      (by_first _ _ 4 n (is_rule (within 1 max_resources u.K && used_in_range (held_pair u)) OutOfRange n (failing _ (in_range u.K (held_pair u)).0 h)))
  use_given (UseLineCalls.not_rising {u} s i g h) =
      rw ((count_stated s.resource).is, (count_stated s.requests).is, (time_stated s.longest).is, (time_stated s.total).is, (range_is 1 max_resources u.K).1 i, (used_range_is (held_pair u)).1 g)
      (by_first _ _ 6 n (is_rule _ NotRising n (le-ltb past.last.0 u.K h)))
  use_given (UseLineCalls.bad_totals {u} s i g l h) =
      rw ((count_stated s.resource).is, (count_stated s.requests).is, (time_stated s.longest).is, (time_stated s.total).is, (range_is 1 max_resources u.K).1 i, (used_range_is (held_pair u)).1 g, lt-ltb past.last.0 u.K l)
      (is_rule _ BadTotals n (failing _ (totals_fit_is (held_pair u) (past.sum + u.CT.held) past.run).0 h))
