-- The row that calls of one closure make, one for each index: what `array::from_fn` returns is what `row_to` says.
-- Assumes nothing.
use Rattle.std.proofs.Common.{◌≡◌, ℕ, zero, suc, ◌+◌, ◌≤◌, ◌<◌, List, get_or, ◌∙◌, arith}
use native.Mathlib.Decide.{ℕ_discrete}
use denote.Param.Members.{Mut}
use Rattle.std.specs.Array.{IsFromFnResult, IsFromFnResultFrom}
use Rattle.std.specs.Fn.{Called}
use Rattle.basics.specs.Over.{row_to}
use Rattle.basics.proofs.RowLaws.{row_is}

-- from i on
pub made_from : {F B : Type 0} (g : Mut F (ℕ × Unit {0}) B) (f : F) (h : ℕ → B) (ys : List B) (d : B) → ((i : ℕ) (y : B) (q : F) → Called g f (i, tt) y q → (q ≡ f) × (y ≡ h i))
    → (i n : ℕ) → IsFromFnResultFrom g f ys i n → (k : ℕ) → i ≤ k → k < i + n → get_or ys k d ≡ h k
made_from g f h ys d is i zero e k l m = absurd (omega arith)
made_from g f h ys d is i (suc n) e k l m =
    let w = is i e.1 e.0 e.3 in
    elim (ℕ_discrete k i) [
      | yes q ↦ rw q (e.2.1 d ∙ w.1)
      | no q ↦ made_from g f h ys d is (i + 1) n (rw w.0 at e.4) k (omega arith) (omega arith)
    ]

pub row_made : {F B : Type 0} (g : Mut F (ℕ × Unit {0}) B) (f : F) (h : ℕ → B) (n : ℕ) (ys : List B) (d : B) → IsFromFnResult g f ys n
    → ((i : ℕ) (y : B) (q : F) → Called g f (i, tt) y q → (q ≡ f) × (y ≡ h i)) → ys ≡ row_to n h
row_made g f h n ys d e is = row_is n h d ys e.long (λ k l. made_from g f h ys d is 0 n e.each k (omega arith) (omega arith))
