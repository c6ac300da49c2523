-- Blocks and archives, computed: document 01's case A, the block whose check is 0, and archives that are refused.
use Rattle.std.specs.Prelude.{ℕ, ◌≡◌, true, false, List, [], ◌∷◌, ◌++◌, map, take, drop, set, replicate}
use Rattle.table.specs.declared.Task.{Task}
use Rattle.table.specs.declared.Fault.TheVariants.{OutOfRange, BadTimes, BadLength, BadBlock, Mismatch}
use Rattle.table.specs.Empty.{unused_pair}
use Rattle.table.specs.At.{a_pair, a_task, a_table}
use Rattle.table.specs.Faults.{at}
use Rattle.table.specs.Answers.{accepted, answer_of}
use Rattle.table.specs.Cleared.{cleared}
use Rattle.block.specs.declared.Head.{Head}
use Rattle.block.specs.Block.{block_of, good_block, head_in, task_in}
use Rattle.card.specs.Archive.{read_archive}

abbrev head : ℕ → ℕ → ℕ → Head
head m n number = record { cpus = m; n = n; number = number }

-- a task of T, C and D that uses resource 1 with N, c and CT
abbrev task_with : ℕ → ℕ → ℕ → ℕ → ℕ → ℕ → Task
task_with T C D N c CT = a_task T C D (a_pair N c CT ∷ replicate 15 unused_pair)

-- case A's blocks; and the block of `cpus 4`, `task 100 40.053 100`
abbrev one : List ℕ
one = block_of (head 2 3 1) (task_with 10_000 2_500 10_000 1 500 500)

abbrev two : List ℕ
two = block_of (head 2 3 2) (task_with 20_000 4_000 15_000 0 0 0)

abbrev three : List ℕ
three = block_of (head 2 3 3) (task_with 30_000 6_000 30_000 2 750 1_500)

abbrev zero_check : List ℕ
zero_check = block_of (head 4 1 1) (task_with 100_000 40_053 100_000 0 0 0)

-- case A's archive, and one of two blocks of another table
abbrev archive_A : List ℕ
archive_A = one ++ two ++ three

abbrev small : ℕ → ℕ → Task → List ℕ
small n number x = block_of (head 2 n number) x

pub record CasesHold : Type 0 where
  -- block 1 begins with these bytes
  pub begins : take 30 one
      ≡ (0x54 ∷ 0x42 ∷ 0x01 ∷ 0x02 ∷ 0x03 ∷ 0x01 ∷ 0x00 ∷ 0x00 ∷ 0x00 ∷ 0x00 ∷ 0x27 ∷ 0x10 ∷ 0x00 ∷ 0x00 ∷ 0x09 ∷ 0xc4 ∷ 0x00 ∷ 0x00 ∷ 0x27 ∷ 0x10
      ∷ 0x00 ∷ 0x01 ∷ 0x00 ∷ 0x00 ∷ 0x01 ∷ 0xf4 ∷ 0x00 ∷ 0x00 ∷ 0x01 ∷ 0xf4 ∷ [])
  -- the checks
  pub checks : map (drop 510) (one ∷ two ∷ three ∷ zero_check ∷ [])
      ≡ ((0x4b ∷ 0xed ∷ []) ∷ (0x0f ∷ 0x61 ∷ []) ∷ (0x9d ∷ 0x1b ∷ []) ∷ (0x00 ∷ 0x00 ∷ []) ∷ [])
  -- good; and with hex FFFF for the check 0000, the lower byte first, a mark, a version, a zero changed: not good
  pub good : map good_block (one ∷ two ∷ three ∷ zero_check ∷ []) ≡ (true ∷ true ∷ true ∷ true ∷ [])
  pub bad : map good_block
      (set (set zero_check 510 0xff) 511 0xff
      ∷ set (set one 510 0xed) 511 0x4b
      ∷ set one 0 0x55
      ∷ set one 2 2
      ∷ set one 7 1
      ∷ set one 180 1
      ∷ set one 509 1
      ∷ drop 1 one
      ∷ (one ++ (0 ∷ []))
      ∷ [])
      ≡ replicate 9 false
  -- read again
  pub read : task_in three ≡ task_with 30_000 6_000 30_000 2 750 1_500
  pub head_read : head_in three ≡ head 2 3 3
  -- the largest numbers that fit the fields
  pub largest : task_in (block_of (head 255 255 255) (task_with 4_294_967_295 4_294_967_295 4_294_967_295 65_535 4_294_967_295 4_294_967_295))
      ≡ task_with 4_294_967_295 4_294_967_295 4_294_967_295 65_535 4_294_967_295 4_294_967_295
  -- an archive, and what it is read as
  pub archive : read_archive archive_A ≡ accepted (cleared (a_table 2 3 (task_with 10_000 2_500 10_000 1 500 500 ∷ task_with 20_000 4_000 15_000 0 0 0 ∷ task_with 30_000 6_000 30_000 2 750 1_500 ∷ [])))
  -- the refusals, in their order
  pub refusals : map (λ (a : List ℕ). answer_of (read_archive a))
      -- 12: no byte, a byte less and a byte more than a block, 33 blocks
      ([]
      ∷ drop 1 one
      ∷ (one ++ (0 ∷ []))
      ∷ replicate 16_896 0
      -- 13 at block 2 before 14 at block 3 (its number); 14 at block 1 (there are not three) before 13 at block 2; 13 before 14 of one block
      ∷ (one ++ set two 180 1 ++ two)
      ∷ (one ++ set two 180 1)
      ∷ (one ++ set three 180 1 ++ three)
      -- 14: the blocks exchanged; other processors
      ∷ (two ++ one ++ three)
      ∷ (small 2 1 (task_with 5 5 5 0 0 0) ++ block_of (head 3 2 2) (task_with 5 5 5 0 0 0))
      -- the table's own: an unused pair with a c, N 65,535, the largest T, C above D, processors
      ∷ (small 2 1 (task_with 5 5 5 0 0 0) ++ small 2 2 (task_with 5 5 5 0 1 0))
      ∷ small 1 1 (task_with 5 5 5 65_535 1 1)
      ∷ small 1 1 (task_with 4_294_967_295 5 5 0 0 0)
      ∷ small 1 1 (task_with 5 5 4 0 0 0)
      ∷ block_of (head 65 1 1) (task_with 5 5 5 0 0 0)
      ∷ [])
      ≡ (at BadLength 0
      ∷ at BadLength 0
      ∷ at BadLength 0
      ∷ at BadLength 0
      ∷ at BadBlock 2
      ∷ at Mismatch 1
      ∷ at BadBlock 2
      ∷ at Mismatch 1
      ∷ at Mismatch 2
      ∷ at OutOfRange 2
      ∷ at OutOfRange 1
      ∷ at OutOfRange 1
      ∷ at BadTimes 1
      ∷ at OutOfRange 0
      ∷ [])
