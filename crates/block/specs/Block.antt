-- Request 2/12 of document 02: a block, in the order of its sentence. "Block i holds task i, numbers big-endian".
use Rattle.std.specs.Prelude.{ℕ, ◌+◌, ◌*◌, Bool, ◌&&◌, List, ◌∷◌, ◌++◌, length, take, replicate, eqb}
use Rattle.basics.specs.Over.{all_to, join_to, row_to}
use Rattle.table.specs.declared.Pair.{Pair}
use Rattle.table.specs.declared.Task.{Task}
use Rattle.table.specs.Limits.{max_resources}
use Rattle.table.specs.At.{a_pair, a_task, pair_of}
use Rattle.checksum.specs.Sum.{check_of}
use Rattle.block.specs.declared.Head.{Head}
use Rattle.block.specs.Numbers.{in_bytes, byte_at, number_at}

-- "blocks of 512 bytes"; the function `size` ties this to the constant of the code
abbrev pub block_size : ℕ
block_size = 512

-- ---- a block as it is written

-- "bytes 0 and 1 are hex 54 42; byte 2 is version 1; 3 processors; 4 n; 5 the task number; 6 and 7 zero"
unfoldable pub head_bytes : Head → List ℕ
head_bytes h = 0x54 ∷ 0x42 ∷ in_bytes 1 1 ++ in_bytes 1 h.cpus ++ in_bytes 1 h.n ++ in_bytes 1 h.number ++ in_bytes 2 0

-- "8, 12 and 16 T, C, D in four bytes each"
unfoldable pub times_bytes : Task → List ℕ
times_bytes x = in_bytes 4 x.period ++ in_bytes 4 x.run ++ in_bytes 4 x.deadline

-- "from 20, sixteen entries of N (two bytes), c (four), CT (four)"
unfoldable pub entry_bytes : Pair → List ℕ
entry_bytes p = in_bytes 2 p.requests ++ in_bytes 4 p.longest ++ in_bytes 4 p.total

unfoldable pub entries_bytes : Task → List ℕ
entries_bytes x = join_to max_resources (λ k. entry_bytes (pair_of x k))

-- "zeros to 509", from 180
unfoldable pub body_of : Head → Task → List ℕ
body_of h x = head_bytes h ++ times_bytes x ++ entries_bytes x ++ replicate 330 0

-- "510 and 511 the RFC 1071 checksum of the first 510 bytes"
unfoldable pub block_of : Head → Task → List ℕ
block_of h x = body_of h x ++ in_bytes 2 (check_of (body_of h x))

-- ---- a block as it is read, by the same offsets

abbrev pub zeros_at : List ℕ → ℕ → ℕ → Bool
zeros_at s at k = all_to k (λ j. eqb (byte_at s (at + j)) 0)

-- 13 is "a wrong check, mark, version or zero": the mark, the version and the zeros
unfoldable pub marked_block : List ℕ → Bool
marked_block s = eqb (byte_at s 0) 0x54 && eqb (byte_at s 1) 0x42 && eqb (byte_at s 2) 1 && zeros_at s 6 2 && zeros_at s 180 330

-- and the check, of a whole block: bytes 510 and 511 equal it, and do not only complete it: hex 0000 and FFFF are two ways to complete one sum
unfoldable pub good_block : List ℕ → Bool
good_block s = eqb (length s) block_size && eqb (number_at s 510 2) (check_of (take 510 s)) && marked_block s

unfoldable pub head_in : List ℕ → Head
head_in s = record { cpus = byte_at s 3; n = byte_at s 4; number = byte_at s 5 }

-- resource k + 1
unfoldable pub pair_in : List ℕ → ℕ → Pair
pair_in s k = a_pair (number_at s (20 + 10 * k) 2) (number_at s (22 + 10 * k) 4) (number_at s (26 + 10 * k) 4)

-- a card has no alpha (document 02, 8/12: "The archive drops it"), so that the task has none
unfoldable pub task_in : List ℕ → Task
task_in s = a_task (number_at s 8 4) (number_at s 12 4) (number_at s 16 4) (row_to max_resources (pair_in s))
