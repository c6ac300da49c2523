-- A table to a listing (document 01, "The listing"; `alpha` and `group`: requests 8/12 and 9/12 of document 02): the text of a table, and what the writer answers.
use Rattle.std.specs.Prelude.{ℕ, suc, List, [], ◌∷◌, ◌++◌, length, get_or, ltb, leb}
use Rattle.basics.specs.Choice.{pick}
use Rattle.basics.specs.Over.{join_to}
use Rattle.table.specs.declared.Pair.{Pair}
use Rattle.table.specs.declared.Task.{Task}
use Rattle.table.specs.declared.Table.{Table}
use Rattle.table.specs.declared.Fault.TheVariants.{TooShort}
use Rattle.table.specs.Faults.{Checked}
use Rattle.table.specs.Answers.{Written}
use Rattle.table.specs.Limits.{max_resources}
use Rattle.table.specs.At.{task_at, pair_of}
use Rattle.table.specs.Faults.{◌then◌, unless}
use Rattle.table.specs.Answers.{or_wrote, or_text}
use Rattle.table.specs.Rules.{table_fault}
use Rattle.put.specs.Text.{count_text, time_text}
use Rattle.basics.specs.Text.{line_of}

-- ---- the text of a table

unfoldable pub use_text : ℕ → Pair → List ℕ
use_text K p = line_of "use" (count_text K ∷ count_text p.requests ∷ time_text p.longest ∷ time_text p.total ∷ [])

-- "It writes used pairs only": resource k + 1 of a task
unfoldable pub pair_text : Task → ℕ → List ℕ
pair_text x k = pick (ltb 0 (pair_of x k).requests) (use_text (suc k) (pair_of x k)) []

-- a task's own line
abbrev pub times_text : Task → List ℕ
times_text x = line_of "task" (time_text x.period ∷ time_text x.run ∷ time_text x.deadline ∷ [])

-- "Add an `alpha A` line right after each task line": of a task that has one
unfoldable pub alpha_text : ℕ → List ℕ
alpha_text A = pick (ltb 0 A) (line_of "alpha" (count_text A ∷ [])) []

abbrev pub own_text : Task → List ℕ
own_text x = times_text x ++ alpha_text x.alpha

unfoldable pub task_text : Task → List ℕ
task_text x = own_text x ++ join_to max_resources (pair_text x)

-- `group G K`, "resource K belongs to group G"
unfoldable pub group_text : ℕ → ℕ → List ℕ
group_text G K = line_of "group" (count_text G ∷ count_text K ∷ [])

-- of resource k + 1, if it has a group, used or not
unfoldable pub member_text : List ℕ → ℕ → List ℕ
member_text groups k = pick (ltb 0 (get_or groups k 0)) (group_text (get_or groups k 0) (suc k)) []

-- the lines before those of the tasks: "add `group G K` lines after `cpus`"; "the writer writes groups in order of K"
unfoldable pub head_text : ℕ → List ℕ → List ℕ
head_text m groups = line_of "cpus" (count_text m ∷ []) ++ join_to max_resources (member_text groups)

-- "First `cpus M`. Then each task .., followed by its `use` lines"
unfoldable pub text_of : Table → List ℕ
text_of t = head_text t.cpus t.groups ++ join_to t.n (λ i. task_text (task_at t i))

-- ---- what the writer answers, and what the output then holds

-- the table's own refusals, then 11, "given exactly if the output is shorter than the text needs"
unfoldable pub write_fault : Table → ℕ → Checked
write_fault t room = table_fault t then unless (leb (length (text_of t)) room) TooShort 0

unfoldable pub write_answer : Table → ℕ → Written
write_answer t room = or_wrote (write_fault t room) (length (text_of t))

unfoldable pub written : Table → List ℕ → List ℕ
written t out = or_text (write_fault t (length out)) (text_of t) out
