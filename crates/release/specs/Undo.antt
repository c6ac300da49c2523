-- Request 2/12 of document 02: "Writer and reader are both wanted, each undoing the other, with one archive for one table"; and what a card is for.
-- A card of version 1 has no groups, and a table that has one is not written (request 9/12, 20).
use Rattle.std.specs.Prelude.{ℕ, ◌+◌, ◌/◌, ◌<◌, ◌≡◌, List, length, set}
use Rattle.table.specs.declared.Table.{Table}
use Rattle.std.specs.Prelude.{Ok}
use Rattle.table.specs.At.{NoAlpha, NoGroup, Same}
use Rattle.table.specs.Faults.{Refuses}
use Rattle.table.specs.Rules.{table_fault}
use Rattle.table.specs.Answers.{accepted, answer_of}
use Rattle.table.specs.Cleared.{cleared}
use Rattle.table.specs.Without.{without_alpha, SameButAlpha}
use Rattle.block.specs.Numbers.{byte_at}
use Rattle.block.specs.Block.{block_size}
use Rattle.card.specs.Archive.{archive_of, read_archive}

-- what a slice of bytes holds
abbrev pub Bytes : List ℕ → Type 0
Bytes s = (i : ℕ) → byte_at s i < 256

-- the archive of an accepted table is read as that table, with zeros past the nth task: "its round trip is for tables without alpha" (request 8/12), and without groups
abbrev pub ReadsBack : Type 0
ReadsBack = (t : Table) → table_fault t ≡ Ok tt → NoAlpha t → NoGroup t → read_archive (archive_of t) ≡ accepted (cleared t)

-- and of any accepted table without groups as the same one without its alphas: "The archive drops it"
abbrev pub DropsAlpha : Type 0
DropsAlpha = (t : Table) → table_fault t ≡ Ok tt → NoGroup t → read_archive (archive_of t) ≡ accepted (cleared (without_alpha t))

-- two tables that differ in alpha alone have one archive, also where they have groups, so that none is written of either
abbrev pub AlphaAlone : Type 0
AlphaAlone = (s t : Table) → SameButAlpha s t → archive_of s ≡ archive_of t

-- the table of an accepted archive, written again, is that archive, byte for byte
abbrev pub WritesAgain : Type 0
WritesAgain = (a : List ℕ) (t : Table) → Bytes a → read_archive a ≡ accepted t → archive_of t ≡ a

-- tables that are the same have the same archive
abbrev pub SameArchive : Type 0
SameArchive = (s t : Table) → Same s t → archive_of s ≡ archive_of t

-- two accepted archives whose tables are the same are equal
abbrev pub OneArchive : Type 0
OneArchive = (a b : List ℕ) (s t : Table) → Bytes a → Bytes b → read_archive a ≡ accepted s → read_archive b ≡ accepted t → Same s t → a ≡ b

-- what a reading accepts has no alpha and no group, and the check of a table accepts it
abbrev pub ReadsNone : Type 0
ReadsNone = (a : List ℕ) (t : Table) → read_archive a ≡ accepted t → NoAlpha t

abbrev pub ReadsUngrouped : Type 0
ReadsUngrouped = (a : List ℕ) (t : Table) → read_archive a ≡ accepted t → NoGroup t

abbrev pub PassesCheck : Type 0
PassesCheck = (a : List ℕ) (t : Table) → read_archive a ≡ accepted t → table_fault t ≡ Ok tt

-- one changed byte never goes unnoticed: an accepted archive with any one byte changed is refused with 13 at that byte's block
abbrev pub Noticed : Type 0
Noticed =
    (a : List ℕ) (t : Table) (j v : ℕ) → Bytes a → read_archive a ≡ accepted t → j < length a → v < 256 → (v ≡ byte_at a j → ⊥)
    → Refuses (answer_of (read_archive (set a j v))) 13 (j / block_size + 1)
