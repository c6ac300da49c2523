-- How long the text of an accepted table can be, from the limits: the sum of the longest lines of each kind.
use Rattle.std.specs.Prelude.{ℕ, ◌+◌, ◌*◌, ◌-◌, ◌/◌, ◌≤◌, ◌≡◌, length}
use Rattle.table.specs.declared.Table.{Table}
use Rattle.std.specs.Prelude.{Ok}
use Rattle.table.specs.Limits.{max_tasks, max_resources, max_time}
use Rattle.table.specs.Rules.{table_fault}
use Rattle.writing.specs.Write.{text_of}

-- ---- the bytes of a line, its LF among them

-- `cpus 64`
abbrev pub max_cpus_text : ℕ
max_cpus_text = 8

-- `group 16 9`: K has one digit
abbrev pub max_group_text : ℕ
max_group_text = 11

-- `task 9999.999 9999.999 9999.999`: the longest time is not the largest, which is written `10000`
abbrev pub max_task_text : ℕ
max_task_text = 32

-- `alpha 64`
abbrev pub max_alpha_text : ℕ
max_alpha_text = 9

-- `use 9 1000 999.999 999.999`: K has one digit, and CT, so c too, is at most 1,000 ms
abbrev pub max_use_text : ℕ
max_use_text = 27

-- how many K have two digits
abbrev pub two_digits : ℕ
two_digits = max_resources - 9

-- the `group` lines: a byte more for each K of two digits
abbrev pub max_groups_text : ℕ
max_groups_text = max_resources * max_group_text + two_digits

-- how many CT of a task can be above 1,000 ms: their sum is at most C, so at most the largest time
abbrev pub max_long : ℕ
max_long = max_time / 1_000_001

-- the `use` lines of a task: a byte more for each K of two digits, and for each CT above 1,000 ms two bytes more, since c may be as long: `use 9 1000 1000.001 1000.001`
abbrev pub max_uses_text : ℕ
max_uses_text = max_resources * max_use_text + two_digits + 2 * max_long

-- ---- the bytes of a text

abbrev pub max_text : ℕ
max_text = max_cpus_text + max_groups_text + max_tasks * (max_task_text + max_alpha_text + max_uses_text)

-- no text of an accepted table is longer, and one is as long
pub record LongestText : Type 0 where
  pub most : (t : Table) → table_fault t ≡ Ok tt → length (text_of t) ≤ max_text
  pub reached : (t : Table) × (table_fault t ≡ Ok tt) × (length (text_of t) ≡ max_text)
