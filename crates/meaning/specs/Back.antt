-- Demand 2: "A written listing reads back as the same table, and an accepted listing rewritten and read again gives the same table."
use Rattle.std.specs.Prelude.{ℕ, ◌≤◌, ◌≡◌, List, length}
use Rattle.table.specs.declared.Table.{Table}
use Rattle.std.specs.Prelude.{Ok}
use Rattle.table.specs.Limits.{max_listing}
use Rattle.table.specs.At.{Same}
use Rattle.table.specs.Rules.{table_fault}
use Rattle.table.specs.Answers.{accepted}
use Rattle.table.specs.Cleared.{cleared}
use Rattle.listing.specs.Read.{read_listing}
use Rattle.writing.specs.Write.{text_of}

-- no accepted table's text is longer than a listing may be
abbrev pub TextFits : Type 0
TextFits = (t : Table) → table_fault t ≡ Ok tt → length (text_of t) ≤ max_listing

-- the text of an accepted table is read as that table, with zeros past the nth task
abbrev pub ReadsBack : Type 0
ReadsBack = (t : Table) → table_fault t ≡ Ok tt → read_listing (text_of t) ≡ accepted (cleared t)

-- an accepted listing, rewritten, is read as the very table that it was read as
abbrev pub Rewrites : Type 0
Rewrites = (s : List ℕ) (t : Table) → read_listing s ≡ accepted t → read_listing (text_of t) ≡ accepted t

-- tables that are the same have the same text
abbrev pub SameText : Type 0
SameText = (a b : Table) → Same a b → text_of a ≡ text_of b
