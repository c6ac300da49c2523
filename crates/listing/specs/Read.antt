-- Document 01, "The listing" and "Refusals by number", and requests 8/12 and 9/12 of document 02: the table that a listing says, or the first refusal and its place.
use Rattle.std.specs.Prelude.{ℕ, ◌+◌, ◌-◌, Bool, true, false, ◌&&◌, List, [], ◌∷◌, length, set, replicate, ltb, leb, Result, Ok, Err}
use Rattle.basics.specs.Choice.{pick}
use Rattle.table.specs.declared.Pair.{Pair}
use Rattle.table.specs.declared.Task.{Task}
use Rattle.table.specs.declared.Table.{Table}
use Rattle.table.specs.declared.Refusal.{Refusal}
use Rattle.table.specs.declared.Resource.{Resource}
use Rattle.table.specs.declared.Fault.TheVariants.{TooLong, BadForm, NoTask, AlphaMissing}
use Rattle.table.specs.Limits.{max_resources, max_listing}
use Rattle.table.specs.Empty.{unused_pair, empty_table}
use Rattle.table.specs.At.{task_at, with_alpha, with_groups}
use Rattle.table.specs.Rules.{all_or_none}
use Rattle.table.specs.Answers.{Reading, not_read, refused, accepted}
use Rattle.line.specs.declared.Past.{Past}
use Rattle.line.specs.declared.Said.{Said}
use Rattle.line.specs.declared.Said.TheVariants.{Cpus, Group, Task as TaskLine, Alpha, Use}
use Rattle.line.specs.Line.{line_says}
use Rattle.listing.specs.Lines.{lines, ends_in_LF}

-- ---- what the lines so far leave

-- before the first line
abbrev pub no_lines : Past
no_lines = record { group = record { 0 = 0 }; tasks = 0; run = 0; last = record { 0 = 0 }; sum = 0; alphas = 0; alpha = 0; fresh = false }

-- after a task line: no K and no CT yet
abbrev pub after_task : Past → ℕ → Past
after_task past C =
    record { group = past.group; tasks = past.tasks + 1; run = C; last = record { 0 = 0 }; sum = 0; alphas = past.alphas; alpha = past.alpha; fresh = true }

-- after a `group` line: its K
abbrev pub after_group : Past → Resource → Past
after_group past K =
    record { group = K; tasks = past.tasks; run = past.run; last = past.last; sum = past.sum; alphas = past.alphas; alpha = past.alpha; fresh = past.fresh }

unfoldable pub past_after : Past → Said → Past
past_after past (Cpus M) = past
past_after past (Group G K) = after_group past K
past_after past (TaskLine T C D) = after_task past C
past_after past (Alpha A) =
    record { group = past.group; tasks = past.tasks; run = past.run; last = past.last; sum = past.sum; alphas = past.alphas + 1; alpha = A; fresh = false }
past_after past (Use K p) =
    record { group = past.group; tasks = past.tasks; run = past.run; last = K; sum = past.sum + p.total; alphas = past.alphas; alpha = past.alpha; fresh = false }

-- a task that has no alpha and uses no resource yet
unfoldable pub new_task : ℕ → ℕ → ℕ → Task
new_task T C D = record { period = T; run = C; deadline = D; alpha = 0; pairs = replicate max_resources unused_pair }

abbrev pub with_pair : Task → ℕ → Pair → Task
with_pair x k p = record { period = x.period; run = x.run; deadline = x.deadline; alpha = x.alpha; pairs = set x.pairs k p }

-- the table with these tasks
abbrev pub with_tasks : List Task → Table → Table
with_tasks tasks t = record { cpus = t.cpus; n = t.n; groups = t.groups; tasks = tasks }

-- the table after a line that follows `tasks` tasks
unfoldable pub table_after : Table → ℕ → Said → Table
table_after t tasks (Cpus M) = record { cpus = M; n = t.n; groups = t.groups; tasks = t.tasks }
table_after t tasks (Group G K) = with_groups (set t.groups (K.0 - 1) G) t
table_after t tasks (TaskLine T C D) = record { cpus = t.cpus; n = tasks + 1; groups = t.groups; tasks = set t.tasks tasks (new_task T C D) }
table_after t tasks (Alpha A) = with_tasks (set t.tasks (tasks - 1) (with_alpha A (task_at t (tasks - 1)))) t
table_after t tasks (Use K p) = with_tasks (set t.tasks (tasks - 1) (with_pair (task_at t (tasks - 1)) (K.0 - 1) p)) t

-- ---- a listing

-- goes on with what is left after what the line says, unless the line was refused
abbrev pub on_said : Result Said Refusal → (Said → Reading) → Reading
on_said (Ok said) rest = rest said
on_said (Err r) rest = not_read r

-- at the end, before line n: a line at all, the last one closed (2); a task (9, place 2); alpha for all tasks or none (17, "place 0, after 9 at a listing's end")
unfoldable pub read_end : Table → Past → ℕ → Bool → Reading
read_end t past n closed =
    pick (closed && ltb 1 n)
    (pick (ltb 0 past.tasks) (pick (all_or_none past.alphas past.tasks) (accepted t) (refused AlphaMissing 0)) (refused NoTask 2))
    (refused BadForm n)

-- "lines in order": the lines from line n on, the first refusal deciding
unfoldable pub read_lines : Table → Past → ℕ → List (List ℕ) → Bool → Reading
read_lines t past n [] closed = read_end t past n closed
read_lines t past n (l ∷ ls) closed =
    on_said (line_says past n l) (λ said. read_lines (table_after t past.tasks said) (past_after past said) (n + 1) ls closed)

-- "1 comes before all else. Then lines in order"
unfoldable pub read_listing : List ℕ → Reading
read_listing s =
    pick (leb (length s) max_listing) (read_lines empty_table no_lines 1 (lines s) (ends_in_LF true s)) (refused TooLong 0)
