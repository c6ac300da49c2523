-- Listings, and what is read of each: one list, one statement over it, computed.
use Rattle.std.specs.Prelude.{ℕ, ◌≡◌, List, [], ◌∷◌, map, replicate}
use Prim.Native.String.{String, ◌++◌}
use Rattle.basics.specs.Text.{bytes}
use Rattle.table.specs.declared.Table.{Table}
use Rattle.table.specs.declared.Fault.{Fault}
use Rattle.table.specs.declared.Fault.TheVariants.{TooLong, BadForm, BadField, OutOfRange, BadTimes, NotRising, BadTotals, TooManyTasks, NoTask, AlphaMissing, AlphaRises, GroupNotRising}
use Rattle.table.specs.Faults.{Checked}
use Rattle.std.specs.Prelude.{Ok}
use Rattle.table.specs.Empty.{unused_pair, empty_task}
use Rattle.table.specs.At.{a_pair, a_task, with_alpha, a_table, with_groups}
use Rattle.table.specs.Faults.{at}
use Rattle.table.specs.Answers.{accepted, refused, answer_of}
use Rattle.listing.specs.Read.{read_listing, new_task}

pub record Case : Type 0 where
  pub text : String
  pub answer : Checked

abbrev bad : String → Fault → ℕ → Case
bad text fault place = record { text = text; answer = at fault place }

abbrev fine : String → Case
fine text = record { text = text; answer = Ok tt }

abbrev pub case_A : String
case_A = "cpus 2\ntask 10 2.5 10\nuse 1 1 0.5 0.5\ntask 20 4 15\ntask 30 6 30\nuse 1 2 0.75 1.5\n"

abbrev eight : String
eight = "task 10 2.5 10\ntask 10 2.5 10\ntask 10 2.5 10\ntask 10 2.5 10\ntask 10 2.5 10\ntask 10 2.5 10\ntask 10 2.5 10\ntask 10 2.5 10\n"

-- 32 tasks, on lines 2 to 33
abbrev full : String
full = "cpus 2\n" ++ eight ++ eight ++ eight ++ eight

-- `group` lines from line 2 on, and a task after them
abbrev grouped : String → String
grouped groups = "cpus 2\n" ++ groups ++ "task 10 5 10\nuse 1 1 1 1\nuse 2 1 1 1\n"

-- a task to add `use` lines to, on line 2
abbrev using5 : String → String
using5 uses = "cpus 2\ntask 10 5 10\n" ++ uses

unfoldable pub cases : List Case
cases =
    fine case_A
    ∷ fine full
    -- an empty listing; no task; a last line without LF; an empty line; nothing but LF
    ∷ bad "" BadForm 1
    ∷ bad "cpus 2\n" NoTask 2
    ∷ bad "cpus 2" BadForm 1
    ∷ bad "cpus 2\ntask 10 2.5 10" BadForm 2
    ∷ bad "cpus 65\ntask 10 2.5 10" OutOfRange 1
    ∷ bad "\n" BadForm 1
    ∷ bad "cpus 2\n\ntask 10 2.5 10\n" BadForm 2
    ∷ bad "cpus 2\ntask 10 2.5 10\n\n" BadForm 3
    -- `cpus` missing, not first, twice; `use` before a task; another word
    ∷ bad "task 10 2.5 10\n" BadForm 1
    ∷ bad "task 10 2.5 10\ncpus 2\n" BadForm 1
    ∷ bad "cpus 2\ncpus 2\n" BadForm 2
    ∷ bad "cpus 2\ntask 10 2.5 10\ncpus 2\n" BadForm 3
    ∷ bad "cpus 2\nuse 1 1 1 1\n" BadForm 2
    ∷ bad "cpus 2\nTask 10 2.5 10\n" BadForm 2
    ∷ bad "cpus 2\ntasks 10 2.5 10\n" BadForm 2
    -- spaces: two, at the front, at the end; fields: too few, too many
    ∷ bad "cpus 2\ntask 10 2.5  10\n" BadForm 2
    ∷ bad "cpus 2\n task 10 2.5 10\n" BadForm 2
    ∷ bad "cpus 2\ntask 10 2.5 10 \n" BadForm 2
    ∷ bad "cpus \n" BadForm 1
    ∷ bad "cpus\n" BadForm 1
    ∷ bad "cpus 2\ntask 10 2.5\n" BadForm 2
    ∷ bad "cpus 2\ntask 10 2.5 10 10\n" BadForm 2
    -- a field badly formed, whatever else the line has; CR and tab are ordinary bytes
    ∷ bad "cpus x\n" BadField 1
    ∷ bad "cpus 2\r\n" BadField 1
    ∷ bad "cpus\t2\n" BadForm 1
    ∷ bad "cpus 00002\n" BadField 1
    ∷ bad "cpus 2\ntask 10 2. 0\n" BadField 2
    ∷ bad "cpus 2\ntask 0 11 1x\n" BadField 2
    ∷ bad (using5 "use 0 x 1 1\n") BadField 3
    ∷ bad (using5 "use 17 1 9 9.0000000\n") BadField 3
    -- ranges
    ∷ bad "cpus 65\n" OutOfRange 1
    ∷ bad "cpus 0\n" OutOfRange 1
    ∷ bad "cpus 2\ntask 10 2 0\n" OutOfRange 2
    ∷ bad "cpus 2\ntask 10000.001 2 2\n" OutOfRange 2
    ∷ fine "cpus 64\ntask 10000 10000 10000\nuse 16 1000 10000 10000\n"
    ∷ bad (using5 "use 17 1 1 1\n") OutOfRange 3
    ∷ bad (using5 "use 0 1 1 1\n") OutOfRange 3
    ∷ bad (using5 "use 1 0 1 1\n") OutOfRange 3
    ∷ bad (using5 "use 1 1001 1 1\n") OutOfRange 3
    ∷ bad (using5 "use 1 1 0 1\n") OutOfRange 3
    -- 5: C above D, D above T; 4 comes before it
    ∷ bad "cpus 2\ntask 10 9 8\n" BadTimes 2
    ∷ bad "cpus 2\ntask 10 9 11\n" BadTimes 2
    ∷ bad "cpus 2\ntask 0 9 11\n" OutOfRange 2
    -- 6: K equal, falling; 4 comes before it, it comes before 7; a new task begins again
    ∷ bad (using5 "use 2 1 1 1\nuse 2 1 1 1\n") NotRising 4
    ∷ bad (using5 "use 2 1 1 1\nuse 1 1 1 1\n") NotRising 4
    ∷ bad (using5 "use 2 1 1 1\nuse 0 1 1 1\n") OutOfRange 4
    ∷ bad (using5 "use 2 1 1 1\nuse 1 1 9 9\n") NotRising 4
    ∷ fine (using5 "use 2 1 1 1\ntask 10 5 10\nuse 2 1 1 1\n")
    -- 7: c above CT, CT above N × c, sums that just fit and one over; a new task begins again
    ∷ bad (using5 "use 2 2 1 0.999\n") BadTotals 3
    ∷ bad (using5 "use 2 2 1 2.001\n") BadTotals 3
    ∷ fine (using5 "use 1 3 1 3\nuse 2 2 1 2\n")
    ∷ bad (using5 "use 1 3 1 3\nuse 2 3 1 2.001\n") BadTotals 4
    ∷ fine (using5 "use 1 3 1 3\ntask 10 5 10\nuse 2 3 1 3\n")
    -- a 33rd task: 8, before a field out of range, after a field badly formed
    ∷ bad (full ++ "task 10 2.5 10\n") TooManyTasks 34
    ∷ bad (full ++ "task 0 11 10\n") TooManyTasks 34
    ∷ bad (full ++ "task 10 x 10\n") BadField 34
    -- more than three decimals (document 02, 1/12): C, c and CT are rounded up, T and D down; seven digits are too many; 4, 5 and 7 see the rounded values
    ∷ fine "cpus 2\ntask 2.5009 2.4995 2.500001\n"
    ∷ fine "cpus 2\ntask 10.0001 1 10.0009\n"
    ∷ bad "cpus 2\ntask 10 2.0000001 10\n" BadField 2
    ∷ bad "cpus 2\ntask 0.0009 11 10.0000000\n" BadField 2
    ∷ bad "cpus 2\ntask 0.0009 0.0009 0.0009\n" OutOfRange 2
    ∷ bad "cpus 2\ntask 10 1 0.000999\n" OutOfRange 2
    ∷ fine "cpus 2\ntask 10000.000999 9999.999999 10000.000999\n"
    ∷ bad "cpus 2\ntask 10000 10000.000001 10000\n" OutOfRange 2
    ∷ bad "cpus 2\ntask 10 99999.999999 10\n" OutOfRange 2
    ∷ bad "cpus 2\ntask 10 2.0001 2.0009\n" BadTimes 2
    ∷ bad (using5 "use 1 1 0.5001 0.5\n") BadTotals 3
    ∷ fine (using5 "use 1 2 0.5001 1.0002\n")
    ∷ bad (using5 "use 1 2 0.5 1.0001\n") BadTotals 3
    -- they fit as typed; each is rounded up by itself
    ∷ bad "cpus 2\ntask 10 1 10\nuse 1 1 0.5001 0.5001\nuse 2 1 0.4999 0.4999\n" BadTotals 4
    -- alpha (document 02, 8/12), right after its task line, for all tasks or none, never rising; leading zeros
    ∷ fine (using5 "alpha 0064\nuse 1 1 1 1\ntask 10 5 10\nalpha 64\ntask 10 5 10\nalpha 1\n")
    -- not right after a task line: before any, a second one, after a `use`; fields: too few, too many, an empty one; another word
    ∷ bad "alpha 1\n" BadForm 1
    ∷ bad "cpus 2\nalpha 1\n" BadForm 2
    ∷ bad (using5 "alpha 2\nalpha 2\n") BadForm 4
    ∷ bad (using5 "use 1 1 1 1\nalpha 2\n") BadForm 4
    ∷ bad (using5 "alpha\n") BadForm 3
    ∷ bad (using5 "alpha 1 1\n") BadForm 3
    ∷ bad (using5 "alpha \n") BadForm 3
    ∷ bad (using5 "Alpha 1\n") BadForm 3
    -- badly formed; out of range, before 18
    ∷ bad (using5 "alpha 00064\n") BadField 3
    ∷ bad (using5 "alpha 1.5\n") BadField 3
    ∷ bad (using5 "alpha 0\n") OutOfRange 3
    ∷ bad (using5 "alpha 65\n") OutOfRange 3
    ∷ bad (using5 "alpha 2\ntask 10 5 10\nalpha 65\n") OutOfRange 5
    -- 18: above the last before with one, be it not the task just before; 17 is then never reached
    ∷ bad (using5 "alpha 2\ntask 10 5 10\nalpha 3\n") AlphaRises 5
    ∷ bad (using5 "alpha 2\ntask 10 5 10\ntask 10 5 10\nalpha 3\n") AlphaRises 6
    ∷ bad (using5 "alpha 9\ntask 10 5 10\nalpha 2\ntask 10 5 10\nalpha 3\n") AlphaRises 7
    -- 17, at the end and without a line; what is refused in a line comes before it, and so does 9
    ∷ bad (using5 "alpha 2\ntask 10 5 10\n") AlphaMissing 0
    ∷ bad (using5 "task 10 5 10\nalpha 2\n") AlphaMissing 0
    ∷ bad (using5 "alpha 2\ntask 10 5 10\nuse 0 1 1 1\n") OutOfRange 5
    -- groups (document 02, 9/12), after `cpus` and before any task: of resources in use and not, up to group 16 of resource 16; leading zeros
    ∷ fine (grouped "group 1 1\ngroup 1 2\n")
    ∷ fine (grouped "group 0002 0001\ngroup 16 0016\n")
    ∷ fine (grouped "group 16 1\ngroup 16 3\ngroup 2 15\ngroup 1 16\n")
    -- before `cpus`; after a task, with and without groups before it; another word; between `cpus` and a second one
    ∷ bad "group 1 1\ncpus 2\n" BadForm 1
    ∷ bad (using5 "group 1 1\n") BadForm 3
    ∷ bad (grouped "group 1 1\n" ++ "group 1 2\n") BadForm 6
    ∷ bad (grouped "Group 1 1\n") BadForm 2
    ∷ bad (grouped "group 1 1\ncpus 2\n") BadForm 3
    -- fields: too few, too many, an empty one
    ∷ bad (grouped "group 1\n") BadForm 2
    ∷ bad (grouped "group 1 1 1\n") BadForm 2
    ∷ bad (grouped "group 1  1\n") BadForm 2
    -- `use` and `alpha` still stand after a task
    ∷ bad "cpus 2\ngroup 1 1\nuse 1 1 1 1\n" BadForm 3
    ∷ bad "cpus 2\ngroup 1 1\nalpha 1\n" BadForm 3
    -- badly formed, whatever else the line has
    ∷ bad (grouped "group x 1\n") BadField 2
    ∷ bad (grouped "group 1 1.5\n") BadField 2
    ∷ bad (grouped "group 00001 1\n") BadField 2
    ∷ bad (grouped "group 17 x\n") BadField 2
    -- ranges: each is 1 to 16
    ∷ bad (grouped "group 0 1\n") OutOfRange 2
    ∷ bad (grouped "group 17 1\n") OutOfRange 2
    ∷ bad (grouped "group 1 0\n") OutOfRange 2
    ∷ bad (grouped "group 1 17\n") OutOfRange 2
    -- 19: K equal, falling; 4 comes before it; the groups themselves may fall, and a `use` line is not against them
    ∷ bad (grouped "group 1 2\ngroup 2 2\n") GroupNotRising 3
    ∷ bad (grouped "group 1 2\ngroup 1 1\n") GroupNotRising 3
    ∷ bad (grouped "group 1 1\ngroup 1 3\ngroup 2 2\n") GroupNotRising 4
    ∷ bad (grouped "group 1 2\ngroup 17 1\n") OutOfRange 3
    ∷ bad (grouped "group 1 2\ngroup 1 0\n") OutOfRange 3
    ∷ fine (grouped "group 9 9\ngroup 1 10\n")
    -- no task: 9 with place 2, whatever the number of group lines; a fault of such a line comes before it
    ∷ bad "cpus 2\ngroup 1 1\n" NoTask 2
    ∷ bad "cpus 2\ngroup 1 1\ngroup 1 2\ngroup 2 3\n" NoTask 2
    ∷ bad "cpus 2\ngroup 1 1\ngroup 1 1\n" GroupNotRising 3
    ∷ bad "cpus 2\ngroup 1 1" BadForm 2
    -- of two faulty lines the first
    ∷ bad "cpus 2\ntask 10 9 8\nuse 0 x\n" BadTimes 2
    ∷ []

-- case A as a table: no groups, and zeros past the third task
unfoldable pub table_A : Table
table_A =
    a_table 2 3
    (a_task 10_000 2_500 10_000 (a_pair 1 500 500 ∷ replicate 15 unused_pair)
    ∷ new_task 20_000 4_000 15_000
    ∷ a_task 30_000 6_000 30_000 (a_pair 2 750 1_500 ∷ replicate 15 unused_pair)
    ∷ replicate 29 empty_task)

-- a table whose every time is rounded
unfoldable pub table_R : Table
table_R = a_table 1 1 (a_task 2_500 2_500 2_500 (a_pair 2 500 1_000 ∷ replicate 15 unused_pair) ∷ replicate 31 empty_task)

-- two tasks with alpha, the second with a lock
unfoldable pub table_p : Table
table_p =
    a_table 2 2
    (with_alpha 3 (new_task 10_000 5_000 10_000)
    ∷ with_alpha 2 (a_task 10_000 5_000 10_000 (a_pair 1 1_000 1_000 ∷ replicate 15 unused_pair))
    ∷ replicate 30 empty_task)

-- a table with groups: resources 1 and 3 in group 2, resource 16 in group 16, and resource 2, in use, in none
unfoldable pub table_G : Table
table_G =
    with_groups (2 ∷ 0 ∷ 2 ∷ 0 ∷ 0 ∷ 0 ∷ 0 ∷ 0 ∷ 0 ∷ 0 ∷ 0 ∷ 0 ∷ 0 ∷ 0 ∷ 0 ∷ 16 ∷ [])
    (a_table 2 1 (a_task 10_000 5_000 10_000 (a_pair 1 1_000 1_000 ∷ a_pair 1 1_000 1_000 ∷ replicate 14 unused_pair) ∷ replicate 31 empty_task))

abbrev pub CasesHold : Type 0
CasesHold =
    (map (λ (c : Case). answer_of (read_listing (bytes c.text))) cases ≡ map (λ (c : Case). c.answer) cases)
    × (read_listing (bytes case_A) ≡ accepted table_A)
    × (read_listing (bytes "cpus 1\ntask 2.5009 2.499001 2.500001\nuse 1 2 0.4999 0.9995\n") ≡ accepted table_R)
    × (read_listing (bytes (using5 "alpha 3\ntask 10 5 10\nalpha 2\nuse 1 1 1 1\n")) ≡ accepted table_p)
    × (read_listing (bytes (grouped "group 2 1\ngroup 2 3\ngroup 16 16\n")) ≡ accepted table_G)
    -- as many LF as a listing may have bytes, and one more
    × (read_listing (replicate 65_536 10) ≡ refused BadForm 1)
    × (read_listing (replicate 65_537 10) ≡ refused TooLong 0)
