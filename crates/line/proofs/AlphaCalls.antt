-- What the field of an `alpha` line calls for is what its rules from 3 on refuse with.
-- Assumes nothing.
use Prim.Native.Nat.{ℕ, ◌<◌}
use mathlib.Core.Path.{◌≡◌, refl}
use mathlib.Core.Bool.{false}
use mathlib.Core.List.{List}
use native.Mathlib.Decide.{dec_lt}
use native.Mathlib.Omega.{arith}
use borrow.Author.Tests.{eqb-false, ne_eqb, leb-true, leb-false, le-leb, lt-leb}
use lib.Dec.{leb, eqb}
use Rattle.std.specs.Prelude.{Option}
use Rattle.basics.proofs.ChoiceLaws.{or_neither}
use Rattle.table.specs.declared.Fault.TheVariants.{BadField, OutOfRange, AlphaRises}
use Rattle.table.specs.Faults.{Checked}
use Rattle.table.specs.Limits.{max_alpha}
use Rattle.table.specs.Faults.{Refuses, ◌then◌, unless}
use Rattle.table.specs.Rules.{may_follow, alpha_fault}
use Rattle.table.specs.Refusals.{InRange}
use Rattle.table.proofs.Deciding.{is_rule, from_rule, from_two, by_first, fails, failing}
use Rattle.table.proofs.RuleLaws.{unless_fine}
use Rattle.field.specs.declared.Field.{Field}
use Rattle.field.specs.Number.{first, count_field}
use Rattle.line.specs.declared.Past.{Past}
use Rattle.line.specs.Line.{formed, value}
use Rattle.line.specs.Refusals.{AlphaLineCalls}
use Rattle.line.proofs.StatedLaws.{formed_states, count_in_lem, count_stated}
use Rattle.line.proofs.FieldCalls.{count_formed}

module _ (past : Past) (n : ℕ) {w : List ℕ} (a : first w ≡ w) where
  abbrev A : Option Field
  A = count_field w

  abbrev least : ℕ → Checked
  least x = unless (leb 1 x) OutOfRange n

  abbrev pub alpha_check : Checked
  alpha_check = unless (formed A) BadField n then least (value A) then alpha_fault n past.alpha (value A)

  abbrev AlphaCalls : ℕ → ℕ → Type 0
  AlphaCalls k p = AlphaLineCalls past w k × (n ≡ p)

  pub alpha_calls : (k p : ℕ) → Refuses alpha_check k p → AlphaCalls k p
  unfolding alpha_fault
  alpha_calls k p =
      let most = unless (leb (value A) max_alpha) OutOfRange n in
      let follows = unless (may_follow past.alpha (value A)) AlphaRises n in
      from_two (unless (formed A) BadField n) (least (value A) then most then follows) k p
      (from_rule AlphaCalls (formed A) BadField n k p (λ e. (AlphaLineCalls.bad_field (λ M s. fails _ (count_formed n a).1 e (M, s)), refl)))
      (λ f.
      let s = count_in_lem a (formed_states A (unless_fine _ BadField n f)) in
      from_two (least (value A)) (most then follows) k p
      (from_rule AlphaCalls (leb 1 (value A)) OutOfRange n k p (λ e. (AlphaLineCalls.out_of_range s (λ r. let l = leb-false 1 (value A) e in omega (arith, r.0)), refl)))
      (λ l. from_two most follows k p
      (from_rule AlphaCalls (leb (value A) max_alpha) OutOfRange n k p (λ e. (AlphaLineCalls.out_of_range s (λ r. let m = leb-false (value A) max_alpha e in omega (arith, r.1)), refl)))
      (λ m. from_rule AlphaCalls _ AlphaRises n k p
      (λ e.
      let z = or_neither (eqb past.alpha 0) _ e in
      let some = eqb-false past.alpha 0 z.0 in
      (AlphaLineCalls.alpha_rises s (leb-true _ _ (unless_fine _ OutOfRange n l), leb-true _ _ (unless_fine _ OutOfRange n m)) (omega arith) (leb-false _ _ z.1), refl)))))

  out_given : (x : ℕ) → (InRange 1 max_alpha x → ⊥) → Refuses (least x then alpha_fault n past.alpha x) 4 n
  unfolding alpha_fault
  out_given x h = go (dec_lt x 1)
    where
      go : Dec (x < 1) → Refuses (least x then (unless (leb x max_alpha) OutOfRange n then unless (may_follow past.alpha x) AlphaRises n)) 4 n
      go (yes l) = by_first (least x) _ 4 n (is_rule _ OutOfRange n (lt-leb 1 x l))
      go (no l) = rw (le-leb 1 x (omega arith)) (by_first _ _ 4 n (is_rule _ OutOfRange n (failing _ (leb-true x max_alpha) (λ m. h (omega arith, m)))))

  pub alpha_given : {k : ℕ} → AlphaLineCalls past w k → Refuses alpha_check k n
  unfolding alpha_fault
  alpha_given (AlphaLineCalls.bad_field h) = by_first _ _ 3 n (is_rule (formed A) BadField n (failing _ (count_formed n a).0 (λ s. h s.0 s.1)))
  alpha_given (AlphaLineCalls.out_of_range {A = x} s h) = rw (count_stated s).is (out_given x h)
  alpha_given (AlphaLineCalls.alpha_rises {A = x} s r l h) =
      let e : may_follow past.alpha x ≡ false = rw (ne_eqb past.alpha 0 (λ z. omega arith), lt-leb x past.alpha h) in
      rw ((count_stated s).is, le-leb 1 x r.0, le-leb x max_alpha r.1) (is_rule _ AlphaRises n e)
