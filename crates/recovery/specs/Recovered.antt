-- Request 5/12 of document 02: what the tool is for. An archive a, an input s, and a list and an output that are lent.
use Rattle.std.specs.Prelude.{ℕ, ◌<◌, ◌≡◌, ◌⊎◌, List, ◌++◌, length, take, drop, replicate, Ok}
use Rattle.table.specs.declared.Table.{Table}
use Rattle.table.specs.Answers.{accepted}
use Rattle.card.specs.Archive.{block_at, blocks_in, table_in, read_archive}
use Rattle.release.specs.Refusals.{GoodBlock}
use Rattle.salvaging.specs.declared.Fate.TheVariants.{Kept}
use Rattle.salvaging.specs.Fates.{code_of, codes_of}
use Rattle.salvaging.specs.Salvage.{salvage_answer, listed, salvaged}
use Rattle.recovery.specs.Refusals.{WholeCard, Room}

-- the answer, and what the list and the output then hold, where the archive a is written and the list begins with `codes`
pub record Gives (s list out a codes : List ℕ) : Type 0 where
  pub answer : salvage_answer s (length list) (length out) ≡ Ok (length a)
  pub output : salvaged s (length list) out ≡ a ++ drop (length a) out
  pub entries : listed s list (length out) ≡ codes ++ drop (length codes) list

-- the first l bytes of the output, once l bytes were written
abbrev pub written_of : List ℕ → ℕ → List ℕ → ℕ → List ℕ
written_of s entries out l = take l (salvaged s entries out)

-- what is written is an archive that the reader accepts, with the table that its blocks state
abbrev pub Readable : Type 0
Readable =
    (s out : List ℕ) (entries l : ℕ) → salvage_answer s entries (length out) ≡ Ok l
    → read_archive (written_of s entries out l) ≡ accepted (table_in (written_of s entries out l))

-- every block that is written is a block of the input
abbrev pub NothingInvented : Type 0
NothingInvented =
    (s out : List ℕ) (entries l : ℕ) → salvage_answer s entries (length out) ≡ Ok l
    → (p : ℕ) → p < blocks_in (written_of s entries out l) → (i : ℕ) × (i < blocks_in s) × (block_at (written_of s entries out l) p ≡ block_at s i)

-- a good archive is returned as it is, all kept
abbrev pub ReturnedAsItIs : Type 0
ReturnedAsItIs =
    (a list out : List ℕ) (t : Table) → read_archive a ≡ accepted t → Room a (blocks_in a) (length list) (length out)
    → Gives a list out a (replicate (blocks_in a) (code_of Kept))

-- the first k blocks of s are blocks of a, or such that 13 would refuse them; and each block of a is among them
pub record Spoiled (a s : List ℕ) (k : ℕ) : Type 0 where
  pub from : (i : ℕ) → i < k → (GoodBlock (block_at s i) → ⊥) ⊎ ((p : ℕ) × (p < blocks_in a) × (block_at s i ≡ block_at a p))
  pub each : (p : ℕ) → p < blocks_in a → (i : ℕ) × (i < k) × (block_at s i ≡ block_at a p)

-- a spoiled card gives back exactly the archive that was on it: in any order, with any copies and any bad blocks
abbrev pub GivenBack : Type 0
GivenBack =
    (a s list out : List ℕ) (t : Table) (k : ℕ) → read_archive a ≡ accepted t → WholeCard s k → Spoiled a s k → Room s k (length list) (length out)
    → Gives s list out a (codes_of s)
