-- A run of digits as the code counts it. No reader has to believe this: only the contract of a private function cites it.
use Rattle.std.specs.Prelude.{ℕ, List, length, leb, Option, None}
use Rattle.basics.specs.Choice.{pick}
use Rattle.field.specs.declared.Field.{Field}
use Rattle.field.specs.Number.{reads_as, digits, number}

-- the digits that s starts with: what number and how many, or `None`: there are more than so many
unfoldable pub run_of : ℕ → List ℕ → Option Field
run_of most s =
    let w = digits s in
    pick (leb (length w) most) (reads_as (number 0 w) (length w)) None
