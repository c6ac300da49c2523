-- A bound, or that there is none, by trying each length, where these are small.
-- Assumes nothing.
use Prim.Native.Nat.{ℕ, suc, ◌≤◌, ◌<◌}
use mathlib.Core.Path.{◌≡◌}
use mathlib.Core.Bool.{Bool, true, ◌&&◌}
use native.Mathlib.Omega.{arith}
use native.Mathlib.Decide.{dec_lt}
use borrow.Author.Tests.{leb-true, ltb-true}
use lib.Dec.{leb, ltb}
use Rattle.basics.specs.Over.{all_to}
use Rattle.basics.proofs.ChoiceLaws.{and_true}
use Rattle.basics.proofs.AllLaws.{all_at}
use Rattle.theory.specs.Bound.{Least, None}

abbrev pub least_test : (ℕ → ℕ) → ℕ → ℕ → Bool
least_test f D t = (leb 1 t && leb t D) && (leb (f t) t && all_to t (λ s. ltb s (f s)))

pub least_by_test : (f : ℕ → ℕ) (D t : ℕ) → least_test f D t ≡ true → Least f D t
least_by_test f D t e =
    let a = and_true (leb 1 t && leb t D) _ e in
    let b = and_true (leb 1 t) _ a.0 in
    let c = and_true (leb (f t) t) _ a.1 in
    record { low = leb-true _ _ b.0; high = leb-true _ _ b.1; meets = leb-true _ _ c.0; least = λ s p k. go s k c.1 (dec_lt s t) }
  where
    go : (s : ℕ) → f s ≤ s → all_to t (λ s. ltb s (f s)) ≡ true → Dec (s < t) → t ≤ s
    go s k h (yes d) = absurd (omega (arith, ltb-true s (f s) (all_at t s _ h d)))
    go s k h (no d) = omega arith

abbrev pub none_test : (ℕ → ℕ) → ℕ → Bool
none_test f D = all_to (suc D) (λ s. ltb s (f s))

pub none_by_test : (f : ℕ → ℕ) (D : ℕ) → none_test f D ≡ true → None f D
none_by_test f D e s p h k = omega (arith, ltb-true s (f s) (all_at (suc D) s _ e (omega arith)))
