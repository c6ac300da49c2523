-- The pairs of a task, stored use by use.
-- Assumes nothing.
use Prim.Native.Nat.{ℕ, suc}
use mathlib.Core.Path.{◌≡◌, refl, ◌∙◌}
use mathlib.Core.Bool.{Bool, true, false}
use mathlib.Core.List.{List, [], ◌∷◌}
use lib.ListN.{replicate}
use lib.Dec.{eqb}
use Rattle.basics.specs.Choice.{pick}
use Rattle.basics.specs.Over.{row_to}
use Rattle.basics.proofs.RowLaws.{row_eq}
use Rattle.table.specs.declared.Pair.{Pair}
use Rattle.table.specs.Limits.{max_resources}
use Rattle.table.specs.Empty.{unused_pair}
use Rattle.line.specs.Stated.{UseFigures, held_pair}
use Rattle.meaning.specs.Figures.{GoodUses, use_for, pair_for}
use Rattle.meaning.proofs.PutRows.{Rising, no_entry, one_entry, put, entry_for, row_stored}

abbrev pub resource_of : UseFigures → ℕ
resource_of u = u.K

abbrev pub put_pairs : List Pair → List UseFigures → List Pair
put_pairs = put resource_of held_pair unused_pair

rising : {C last sum : ℕ} {us : List UseFigures} → GoodUses C last sum us → Rising resource_of held_pair unused_pair last us
rising GoodUses.no_use = no_entry
rising (GoodUses.one_use {u = u} a b g f r) = one_entry {x = u} a b (rising r)

pub pair_for_lem : (us : List UseFigures) (k : ℕ) → entry_for resource_of held_pair unused_pair us k ≡ pair_for us k
pair_for_lem [] k = refl
pair_for_lem (u ∷ us) k = rw (pair_for_lem us k) (go (eqb u.K (suc k)))
  where
    go : (b : Bool) → pick b (held_pair u) (held_pair (use_for us k)) ≡ held_pair (pick b u (use_for us k))
    go true = refl
    go false = refl

pub pairs_stored : {C : ℕ} {us : List UseFigures} → GoodUses C 0 0 us → put_pairs (replicate max_resources unused_pair) us ≡ row_to max_resources (pair_for us)
pairs_stored {us = us} g =
    row_stored resource_of held_pair unused_pair (rising g) ∙ row_eq max_resources (entry_for resource_of held_pair unused_pair us) (pair_for us) (λ k h. pair_for_lem us k)
