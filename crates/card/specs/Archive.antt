-- Request 2/12 of document 02: the archive of a table; what an archive is refused with, and the table that it says. 20 is request 9/12's.
use Rattle.std.specs.Prelude.{ℕ, ◌+◌, ◌*◌, ◌/◌, ◌%◌, Bool, not, ◌&&◌, List, length, take, drop, leb, ltb, eqb}
use Rattle.basics.specs.Choice.{pick, within}
use Rattle.basics.specs.Over.{join_to, row_to}
use Rattle.table.specs.declared.Table.{Table}
use Rattle.table.specs.declared.Fault.TheVariants.{TooShort, BadLength, BadBlock, Mismatch, HasGroup}
use Rattle.table.specs.Faults.{Checked}
use Rattle.table.specs.Answers.{Reading}
use Rattle.table.specs.Answers.{Written}
use Rattle.table.specs.Limits.{max_tasks}
use Rattle.table.specs.Empty.{no_groups, empty_task}
use Rattle.table.specs.At.{task_at}
use Rattle.table.specs.Faults.{◌then◌, unless, first_fault}
use Rattle.table.specs.Rules.{has_group, table_fault}
use Rattle.table.specs.Answers.{or_table, or_wrote, or_text}
use Rattle.block.specs.declared.Head.{Head}
use Rattle.block.specs.Block.{block_size, block_of, good_block, head_in, task_in}

-- ---- an archive as it is written

-- what block i + 1 says besides its task
abbrev pub head_for : Table → ℕ → Head
head_for t i = record { cpus = t.cpus; n = t.n; number = i + 1 }

-- "Block i holds task i"
abbrev pub block_for : Table → ℕ → List ℕ
block_for t i = block_of (head_for t i) (task_at t i)

-- "An archive is blocks 1 to n"
unfoldable pub archive_of : Table → List ℕ
archive_of t = join_to t.n (block_for t)

-- the table's own refusals; 20, "writing a table that has a group as a card archive of version 1, place 0, after the table's own and before 11";
-- "a writer whose output is shorter than 512 × n bytes gives 11 last"
unfoldable pub archiving_fault : Table → ℕ → Checked
archiving_fault t room =
    table_fault t then
    unless (not (has_group t.groups)) HasGroup 0 then
    unless (leb (block_size * t.n) room) TooShort 0

unfoldable pub archiving_answer : Table → ℕ → Written
archiving_answer t room = or_wrote (archiving_fault t room) (block_size * t.n)

unfoldable pub archiving : Table → List ℕ → List ℕ
archiving t out = or_text (archiving_fault t (length out)) (archive_of t) out

-- ---- an archive as it is read

-- block i + 1
abbrev pub block_at : List ℕ → ℕ → List ℕ
block_at a i = take block_size (drop (block_size * i) a)

abbrev pub blocks_in : List ℕ → ℕ
blocks_in a = length a / block_size

-- 12 is "length not 1 to 32 whole blocks"; an archive has a block for each of at most 32 tasks
unfoldable pub is_length : ℕ → Bool
is_length l = eqb (l % block_size) 0 && within 1 max_tasks (l / block_size)

-- 14 is "processors or n not block 1's, n not the number of blocks, or a task number not the position"
unfoldable pub agrees : Head → ℕ → ℕ → Head → Bool
agrees first n position h = eqb h.cpus first.cpus && eqb h.n first.n && eqb h.n n && eqb h.number position

-- "block by block, the place its position, 13 .. then 14": a block s
unfoldable pub block_fault : Head → ℕ → ℕ → List ℕ → Checked
block_fault first n position s =
    unless (good_block s) BadBlock position then
    unless (agrees first n position (head_in s)) Mismatch position

-- block i + 1 of an archive
abbrev pub block_fault_at : List ℕ → ℕ → Checked
block_fault_at a i = block_fault (head_in (block_at a 0)) (blocks_in a) (i + 1) (block_at a i)

unfoldable pub blocks_fault : List ℕ → Checked
blocks_fault a = first_fault (blocks_in a) (block_fault_at a)

-- the processors that block 1 says and the task of each block, with zeros past the last; a card of version 1 has no groups
unfoldable pub table_in : List ℕ → Table
table_in a =
    record {
      cpus = (head_in (block_at a 0)).cpus;
      n = blocks_in a;
      groups = no_groups;
      tasks = row_to max_tasks (λ i. pick (ltb i (blocks_in a)) (task_in (block_at a i)) empty_task);
    }

-- "12 ..; block by block ..; then the table's own". Neither 9 nor 8 is among these: there are 1 to 32 blocks, and n is how many
unfoldable pub archive_fault : List ℕ → Checked
archive_fault a =
    unless (is_length (length a)) BadLength 0 then
    blocks_fault a then
    table_fault (table_in a)

unfoldable pub read_archive : List ℕ → Reading
read_archive a = or_table (archive_fault a) (table_in a)
