-- A refused reading gives the empty table.
-- Assumes nothing.
use Prim.Native.Nat.{ℕ}
use mathlib.Core.Path.{◌≡◌, refl}
use mathlib.Core.List.{List}
use Rattle.std.specs.Prelude.{Ok, Err}
use Rattle.table.specs.declared.Refusal.{Refusal}
use Rattle.table.specs.Empty.{empty_table}
use Rattle.table.specs.Answers.{Reading, answer_of, table_from}
use Rattle.listing.specs.Read.{read_listing}

pub listing_empty : (s : List ℕ) (r : Refusal) → answer_of (read_listing s) ≡ Err r → table_from (read_listing s) ≡ empty_table
listing_empty s r = go (read_listing s)
  where
    go : (x : Reading) → answer_of x ≡ Err r → table_from x ≡ empty_table
    go (Ok t) e = cc
    go (Err f) e = refl
