-- Request 2/12 of document 02, its refusals said a second way: what a good block is and what it is to be in place, and the number and the place that an archive calls for.
use Rattle.std.specs.Prelude.{ℕ, ◌+◌, ◌*◌, ◌≤◌, ◌<◌, ◌≡◌, ◌⊎◌, List, length, take}
use Rattle.basics.specs.Exactly.{◌exactly_if◌}
use Rattle.std.specs.Prelude.{Ok}
use Rattle.table.specs.Limits.{max_tasks}
use Rattle.table.specs.Faults.{Refuses}
use Rattle.table.specs.Accepted.{Accepted}
use Rattle.table.specs.Refusals.{CallsFor as TableCallsFor}
use Rattle.checksum.specs.Sum.{check_of}
use Rattle.block.specs.Numbers.{byte_at, number_at}
use Rattle.block.specs.Block.{block_size}
use Rattle.card.specs.Archive.{block_at, table_in, read_archive}
use Rattle.table.specs.Answers.{answer_of}

-- "1 to 32 whole blocks"
pub record Whole (a : List ℕ) (n : ℕ) : Type 0 where
  pub least : 1 ≤ n
  pub most : n ≤ max_tasks
  pub long : length a ≡ block_size * n

-- what 13 does not refuse: the right check, mark, version and zeros
pub record GoodBlock (s : List ℕ) : Type 0 where
  pub long : length s ≡ block_size
  pub check : number_at s 510 2 ≡ check_of (take 510 s)
  pub mark : (byte_at s 0 ≡ 0x54) × (byte_at s 1 ≡ 0x42)
  pub version : byte_at s 2 ≡ 1
  pub zeros : (i : ℕ) → ((6 ≤ i) × (i < 8)) ⊎ ((180 ≤ i) × (i < 510)) → byte_at s i ≡ 0

-- what 14 does not refuse, of block i + 1 of n
pub record InPlace (a : List ℕ) (n i : ℕ) : Type 0 where
  pub cpus : byte_at (block_at a i) 3 ≡ byte_at (block_at a 0) 3
  pub n_first : byte_at (block_at a i) 4 ≡ byte_at (block_at a 0) 4
  pub n_blocks : byte_at (block_at a i) 4 ≡ n
  pub number : byte_at (block_at a i) 5 ≡ i + 1

-- the first i blocks of n are good and in place
abbrev pub FirstGood : List ℕ → ℕ → ℕ → Type 0
FirstGood a n i = (j : ℕ) → j < i → GoodBlock (block_at a j) × InPlace a n j

-- the number and the place that an archive calls for
pub data CallsFor (a : List ℕ) : ℕ → ℕ → Type 0 where
  -- "12, length not 1 to 32 whole blocks, place 0"
  bad_length : ((n : ℕ) → Whole a n → ⊥) → CallsFor a 12 0
  -- "block by block, the place its position, 13"
  bad_block : (n i : ℕ) → Whole a n → i < n → FirstGood a n i → (GoodBlock (block_at a i) → ⊥) → CallsFor a 13 (i + 1)
  -- "then 14"
  mismatch : (n i : ℕ) → Whole a n → i < n → FirstGood a n i → GoodBlock (block_at a i) → (InPlace a n i → ⊥) → CallsFor a 14 (i + 1)
  -- "then the table's own, with document 01's places"
  table : (n : ℕ) {number place : ℕ} → Whole a n → FirstGood a n n → TableCallsFor (table_in a) number place → CallsFor a number place

-- ---- the two agree

pub record RefusedAsCalled : Type 0 where
  pub refused : (a : List ℕ) (number place : ℕ) → Refuses (answer_of (read_archive a)) number place exactly_if CallsFor a number place
  -- and accepted exactly if nothing is called for
  pub accepted : (a : List ℕ) → (answer_of (read_archive a) ≡ Ok tt) exactly_if ((n : ℕ) × Whole a n × FirstGood a n n × Accepted (table_in a))
  -- neither 8 nor 9 is among the table's own here: there are 1 to 32 blocks, and n is how many; nor 17 nor 18: a card has no alpha; 19 is a line's, and 20 a writer's
  pub numbers : (a : List ℕ) (number place : ℕ) → Refuses (answer_of (read_archive a)) number place → (number ≤ 7) ⊎ ((12 ≤ number) × (number ≤ 14))
