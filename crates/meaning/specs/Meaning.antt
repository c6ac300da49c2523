-- What reading means, as statements over the second way to say it.
use Rattle.std.specs.Prelude.{ℕ, ◌≤◌, ◌≡◌, List, length}
use Rattle.table.specs.declared.Table.{Table}
use Rattle.std.specs.Prelude.{Ok}
use Rattle.table.specs.Limits.{max_listing}
use Rattle.table.specs.Rules.{table_fault}
use Rattle.table.specs.Answers.{accepted}
use Rattle.listing.specs.Read.{read_listing}
use Rattle.meaning.specs.Figures.{Figures, StatesFigures, GoodFigures, table_of}

-- an accepted listing states figures that obey the rules, and its table holds exactly those
abbrev pub Correct : Type 0
Correct =
    (s : List ℕ) (t : Table) → read_listing s ≡ accepted t
    → (f : Figures) × StatesFigures s f × GoodFigures f × (t ≡ table_of f)

-- a listing that states figures that obey the rules is accepted with the table that holds them, whatever their spelling
abbrev pub Complete : Type 0
Complete =
    (s : List ℕ) (f : Figures) → length s ≤ max_listing → StatesFigures s f → GoodFigures f → read_listing s ≡ accepted (table_of f)

-- no listing states figures in two ways
abbrev pub Unambiguous : Type 0
Unambiguous = (s : List ℕ) (f g : Figures) → StatesFigures s f → StatesFigures s g → f ≡ g

-- what a reading accepts, the check of a table accepts
abbrev pub PassesCheck : Type 0
PassesCheck = (s : List ℕ) (t : Table) → read_listing s ≡ accepted t → table_fault t ≡ Ok tt
