-- What a call's answer and the branch on it say of the check that the callee's contract names, and what a writer's answer says of its check.
-- Assumes nothing.
use Prim.Native.Nat.{ℕ}
use mathlib.Core.Path.{◌≡◌, refl, ◌∙◌, sym, ap}
use native.Mathlib.Omega.{arith}
use Rattle.table.specs.declared.Refusal.{Refusal}
use Rattle.table.specs.Faults.{Checked}
use Rattle.std.specs.Prelude.{Ok, Err}
use Rattle.table.specs.Answers.{Reading, Written, accepted, answer_of, table_from, or_wrote}
use Rattle.table.specs.Faults.{◌then◌}

-- the check x was refused, so what follows it is not looked at
pub halts : {a x : Checked} {f : Refusal} (b : Checked) → a ≡ x → a ≡ Err f → Err f ≡ (x then b)
halts b e g = ap (λ y. y then b) (sym g ∙ e)

-- the check x was fine, so what follows it decides
pub goes : {a x : Checked} (b : Checked) → a ≡ x → a ≡ Ok tt → (x then b) ≡ b
goes b e g = ap (λ y. y then b) (sym e ∙ g)

-- what was written: nothing was said against it, and it has that many bytes
pub wrote_is : (c : Checked) {n k : ℕ} → or_wrote c n ≡ Ok k → (c ≡ Ok tt) × (n ≡ k)
wrote_is (Ok _) e = (refl, ap wrote_of e)
  where
    wrote_of : Written → ℕ
    wrote_of (Ok k) = k
    wrote_of (Err r) = 0
wrote_is (Err r) e = let z : ◌≡◌ {A = ℕ} 0 1 = cc in absurd (omega arith)

-- what was read, where nothing was said against it
pub given_is : (r : Reading) → answer_of r ≡ Ok tt → r ≡ accepted (table_from r)
given_is (Ok t) e = refl
given_is (Err r) e = let z : ◌≡◌ {A = ℕ} 0 1 = cc in absurd (omega arith)
