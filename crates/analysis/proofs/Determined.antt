-- Two answers that satisfy a public function's contract are equal, and so is what the caller's row then holds.
-- Assumes nothing.
use Prim.Native.Nat.{ℕ}
use mathlib.Core.Path.{◌≡◌, sym, ◌∙◌}
use mathlib.Core.List.{List}
use Rattle.basics.specs.Determined.{Determined}
use Rattle.table.specs.declared.Table.{Table}
use Rattle.table.specs.Faults.{Checked}
use Rattle.analysis.specs.declared.Record.{Record}
use Rattle.analysis.specs.Answers.{FillsRow}
use Rattle.analysis.proofs.bound.Reads as bound
use Rattle.analysis.proofs.analyse_all.Reads as analyse_all

pub bound_determined : Determined (bound.Learnt tt)
bound_determined a x y r s p q = p ∙ sym q

pub analyse_all_determined : Determined (analyse_all.Learnt tt)
analyse_all_determined a x y r s p q = λ j. record { answer = (p.0 ∙ sym q.0) j; rows = (p.1 ∙ sym q.1) j }

-- of `analyse` over `FillsRow`, which is the whole of its contract
pub analyse_determined : (t : Table) (allowance : ℕ) (row : List Record) (r s : Checked) (x y : List Record)
    → FillsRow t allowance row r x → FillsRow t allowance row s y → (r ≡ s) × (x ≡ y)
analyse_determined t allowance row r s x y p q = (p.0 ∙ sym q.0, p.1 ∙ sym q.1)
