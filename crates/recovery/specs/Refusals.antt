-- Request 5/12 of document 02, its list, its completeness and its refusals said a second way.
use Rattle.std.specs.Prelude.{ℕ, ◌+◌, ◌*◌, ◌≤◌, ◌<◌, ◌≡◌, ◌⊎◌, List, length, Ok}
use Rattle.basics.specs.Exactly.{◌exactly_if◌}
use Rattle.table.specs.Limits.{max_tasks}
use Rattle.table.specs.Faults.{Refuses}
use Rattle.table.specs.Accepted.{Accepted}
use Rattle.table.specs.Refusals.{CallsFor as TableCallsFor}
use Rattle.block.specs.Numbers.{byte_at}
use Rattle.block.specs.Block.{block_size}
use Rattle.card.specs.Archive.{block_at, table_in}
use Rattle.release.specs.Refusals.{GoodBlock}
use Rattle.salvaging.specs.declared.Fate.{Fate}
use Rattle.salvaging.specs.declared.Fate.TheVariants.{Bad, Doubled, Kept, Moved}
use Rattle.salvaging.specs.Fates.{fate_at}
use Rattle.salvaging.specs.Salvage.{max_blocks, mended, salvage_fault}

-- "a whole number of blocks from 1 to 64"
pub record WholeCard (s : List ℕ) (k : ℕ) : Type 0 where
  pub least : 1 ≤ k
  pub most : k ≤ max_blocks
  pub long : length s ≡ block_size * k

-- ---- what becomes of block i + 1

-- it equals no earlier good block
abbrev pub New : List ℕ → ℕ → Type 0
New s i = (j : ℕ) → j < i → GoodBlock (block_at s j) → block_at s j ≡ block_at s i → ⊥

-- it is left: neither bad nor doubled
abbrev pub Left : List ℕ → ℕ → Type 0
Left s i = GoodBlock (block_at s i) × New s i

pub data Becomes (s : List ℕ) (i : ℕ) : Fate → Type 0 where
  -- "bad if 13 would refuse it"
  bad : (GoodBlock (block_at s i) → ⊥) → Becomes s i Bad
  -- "doubled if it equals an earlier good block byte for byte"
  doubled : (j : ℕ) → GoodBlock (block_at s i) → j < i → GoodBlock (block_at s j) → block_at s j ≡ block_at s i → Becomes s i Doubled
  -- "kept if its number is its position"
  kept : Left s i → byte_at (block_at s i) 5 ≡ i + 1 → Becomes s i Kept
  -- "and moved otherwise"
  moved : Left s i → (byte_at (block_at s i) 5 ≡ i + 1 → ⊥) → Becomes s i Moved

-- ---- the blocks left, of k, are those of an archive of n

pub record Complete (s : List ℕ) (k n : ℕ) : Type 0 where
  -- "at least one block is left"
  pub some : (i : ℕ) × (i < k) × Left s i
  -- "all left agree on processors and n"
  pub cpus : (i j : ℕ) → i < k → j < k → Left s i → Left s j → byte_at (block_at s i) 3 ≡ byte_at (block_at s j) 3
  pub tasks : (i : ℕ) → i < k → Left s i → byte_at (block_at s i) 4 ≡ n
  -- "and their numbers are 1 to n"
  pub numbers : (i : ℕ) → i < k → Left s i → (1 ≤ byte_at (block_at s i) 5) × (byte_at (block_at s i) 5 ≤ n)
  pub each : (p : ℕ) → 1 ≤ p → p ≤ n → (i : ℕ) × (i < k) × Left s i × (byte_at (block_at s i) 5 ≡ p)
  -- "each once"
  pub once : (i j : ℕ) → i < k → j < k → Left s i → Left s j → byte_at (block_at s i) 5 ≡ byte_at (block_at s j) 5 → i ≡ j

-- it "orders them by task number": the archive a has the block left with the number p + 1 at p
pub record Ordered (s : List ℕ) (k n : ℕ) (a : List ℕ) : Type 0 where
  pub long : length a ≡ block_size * n
  pub block : (p i : ℕ) → i < k → Left s i → byte_at (block_at s i) 5 ≡ p + 1 → block_at a p ≡ block_at s i

-- ---- the number and the place that an input calls for, with a list of so many entries and an output of so many bytes

-- there is room for an input of k blocks
abbrev pub Room : List ℕ → ℕ → ℕ → ℕ → Type 0
Room s k entries room = (k ≤ entries) × (length s ≤ room)

pub data CallsFor (s : List ℕ) (entries room : ℕ) : ℕ → ℕ → Type 0 where
  -- "15, input not a whole number of blocks from 1 to 64"
  bad_card : ((k : ℕ) → WholeCard s k → ⊥) → CallsFor s entries room 15 0
  -- "11, list or output with less room than the input has blocks"
  too_short : (k : ℕ) → WholeCard s k → (entries < k) ⊎ (room < length s) → CallsFor s entries room 11 0
  -- "14, no complete archive"
  incomplete : (k : ℕ) → WholeCard s k → Room s k entries room → ((n : ℕ) → Complete s k n → ⊥) → CallsFor s entries room 14 0
  -- "then the table's own"
  table : (k n : ℕ) (a : List ℕ) {number place : ℕ} → WholeCard s k → Room s k entries room → Complete s k n → Ordered s k n a
      → TableCallsFor (table_in a) number place → CallsFor s entries room number place

-- ---- the two agree

pub record SalvagedAsCalled : Type 0 where
  pub fates : (s : List ℕ) (i : ℕ) (f : Fate) → (fate_at s i ≡ f) exactly_if Becomes s i f
  -- the archive that a card is mended to is the blocks left in their order, and nothing else is
  pub ordered : (s a : List ℕ) (k n : ℕ) → WholeCard s k → Complete s k n → Ordered s k n a exactly_if (a ≡ mended s)
  pub refused : (s : List ℕ) (entries room number place : ℕ) → Refuses (salvage_fault s entries room) number place exactly_if CallsFor s entries room number place
  -- and nothing is refused exactly if nothing is called for
  pub fine : (s : List ℕ) (entries room : ℕ)
      → (salvage_fault s entries room ≡ Ok tt) exactly_if ((k : ℕ) × (n : ℕ) × (a : List ℕ) × WholeCard s k × Room s k entries room × Complete s k n × Ordered s k n a × Accepted (table_in a))
  -- more than 32 blocks that are complete are 8
  pub too_many : (s : List ℕ) (entries room k n : ℕ) → WholeCard s k → Room s k entries room → Complete s k n → max_tasks < n → Refuses (salvage_fault s entries room) 8 0
