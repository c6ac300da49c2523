-- Document 01, "The listing" and "Refusals by number": what a line says, or its first refusal. How its times are rounded: document 02, 1/12; `alpha`: 8/12; `group`: 9/12.
use Rattle.std.specs.Prelude.{ℕ, ◌+◌, Bool, true, false, ◌&&◌, List, [], get_or, ltb, leb, eqb, Option, Some, None, Result, Ok, Err}
use Rattle.basics.specs.Choice.{pick, within}
use Rattle.basics.specs.Text.{bytes}
use Rattle.table.specs.declared.Pair.{Pair}
use Rattle.table.specs.declared.Refusal.{Refusal}
use Rattle.table.specs.declared.Fault.TheVariants.{BadForm, BadField, OutOfRange, NotRising, BadTotals, TooManyTasks, GroupNotRising}
use Rattle.table.specs.Faults.{Checked}
use Rattle.table.specs.Limits.{max_cpus, max_tasks, max_resources, max_group}
use Rattle.table.specs.Faults.{◌then◌, unless}
use Rattle.table.specs.Rules.{times_fault, alpha_fault, used_in_range, totals_fit}
use Rattle.field.specs.declared.Field.{Field}
use Rattle.field.specs.declared.Rounding.{Rounding}
use Rattle.field.specs.declared.Rounding.TheVariants.{Down, Up}
use Rattle.field.specs.Number.{time_field, count_field}
use Rattle.line.specs.declared.Past.{Past}
use Rattle.line.specs.declared.Said.{Said}
use Rattle.line.specs.declared.Said.TheVariants.{Cpus, Group, Task as TaskLine, Alpha, Use}
use Rattle.line.specs.Fields.{fields, form}

-- ---- a line: the rules in the paper's order, 2, 3, 8, 4, 5, 6, 7, of `alpha` 2, 3, 4, 18, and of `group` 2, 3, 4, 19

-- whether a field is well formed, and its number
abbrev pub formed : Option Field → Bool
formed (Some f) = true
formed None = false

abbrev pub value : Option Field → ℕ
value (Some f) = f.value
value None = 0

infixr 15 ◌gives◌
-- what a line says, where there is nothing against it
abbrev pub ◌gives◌ : Checked → Said → Result Said Refusal
Ok _ gives x = Ok x
Err r gives x = Err r

-- line n, `cpus M`
unfoldable pub cpus_line : ℕ → Option Field → Result Said Refusal
cpus_line n M =
    (unless (formed M) BadField n then
    unless (within 1 max_cpus (value M)) OutOfRange n)
    gives Cpus (value M)

-- line n, `group G K`: "resource K belongs to group G, both count fields, 1 to 16"; "19, K not above the K of the group line before, after 4"
unfoldable pub group_line : Past → ℕ → Option Field → Option Field → Result Said Refusal
group_line past n G K =
    (unless (formed G && formed K) BadField n then
    unless (within 1 max_group (value G) && within 1 max_resources (value K)) OutOfRange n then
    unless (ltb past.group.0 (value K)) GroupNotRising n)
    gives Group (value G) (record { 0 = value K })

-- line n, `task T C D`
unfoldable pub task_line : Past → ℕ → Option Field → Option Field → Option Field → Result Said Refusal
task_line past n T C D =
    (unless (formed T && formed C && formed D) BadField n then
    unless (ltb past.tasks max_tasks) TooManyTasks n then times_fault n (value T) (value C) (value D))
    gives TaskLine (value T) (value C) (value D)

-- line n, `alpha A`: "A a count field from 1 to 64"; "18, alpha above that of the last task before with one, after 4 at its line"
unfoldable pub alpha_line : Past → ℕ → Option Field → Result Said Refusal
alpha_line past n A =
    (unless (formed A) BadField n then
    unless (leb 1 (value A)) OutOfRange n then alpha_fault n past.alpha (value A))
    gives Alpha (value A)

-- line n, `use K N c CT`
unfoldable pub use_line : Past → ℕ → Option Field → Option Field → Option Field → Option Field → Result Said Refusal
use_line past n K N c CT =
    let p : Pair = record { requests = value N; longest = value c; total = value CT } in
    (unless (formed K && formed N && formed c && formed CT) BadField n then
    unless (within 1 max_resources (value K) && used_in_range p) OutOfRange n then
    unless (ltb past.last.0 (value K)) NotRising n then
    unless (totals_fit p (past.sum + value CT) past.run) BadTotals n)
    gives Use (record { 0 = value K }) p

-- the number in field i of a line
abbrev pub count_in : List ℕ → ℕ → Option Field
count_in s i = count_field (get_or (fields s) i [])

abbrev pub time_in : Rounding → List ℕ → ℕ → Option Field
time_in way s i = time_field way (get_or (fields s) i [])

-- line n: `cpus` first and only there, `group` "after `cpus`" ("a group line after a task or before `cpus` is 2"), `alpha` "right after a task line", `use` after a task; else it is "not of its form or place" (2).
-- "A run time, longest request or total (C, c, CT) is rounded up to the microsecond; a period or deadline (T, D) is rounded down."
unfoldable pub line_says : Past → ℕ → List ℕ → Result Said Refusal
line_says past n s =
    pick (form (bytes "cpus") 2 s && eqb n 1) (cpus_line n (count_in s 1))
    (pick (form (bytes "group") 3 s && (ltb 1 n && eqb past.tasks 0)) (group_line past n (count_in s 1) (count_in s 2))
    (pick (form (bytes "task") 4 s && ltb 1 n) (task_line past n (time_in Down s 1) (time_in Up s 2) (time_in Down s 3))
    (pick (form (bytes "alpha") 2 s && past.fresh) (alpha_line past n (count_in s 1))
    (pick (form (bytes "use") 5 s && ltb 0 past.tasks) (use_line past n (count_in s 1) (count_in s 2) (time_in Up s 3) (time_in Up s 4))
    (Err (record { fault = BadForm; place = n }))))))
