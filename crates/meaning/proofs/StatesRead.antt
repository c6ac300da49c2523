-- From what is stated to what is read: lines that state figures are read to their end, and leave what `left_by` says.
-- Assumes nothing.
use Prim.Native.Nat.{ℕ, suc, ◌+◌, ◌≤◌, ◌<◌}
use Prim.Native.String.{String}
use mathlib.Core.Path.{◌≡◌, refl, ap, ◌∙◌}
use mathlib.Core.Bool.{true, false}
use mathlib.Core.List.{List, [], ◌∷◌, ◌++◌, append_assoc}
use native.Mathlib.Omega.{arith}
use native.Mathlib.Nat.{add-zero, zero-add}
use lib.ListN.{length}
use Rattle.basics.specs.Text.{bytes, line_of}
use Rattle.table.specs.declared.Table.{Table}
use Rattle.std.specs.Prelude.{Ok}
use Rattle.table.specs.Answers.{Reading}
use Rattle.table.specs.declared.Resource.{Resource}
use Rattle.table.specs.Limits.{max_tasks}
use Rattle.table.proofs.RuleFacts.{may_follow_is}
use Rattle.field.specs.Spelling.{Time}
use Rattle.line.specs.declared.Past.{Past}
use Rattle.line.specs.declared.Said.{Said}
use Rattle.line.specs.declared.Said.TheVariants.{Group, Task as TaskLine, Alpha, Use}
use Rattle.line.specs.Line.{line_says}
use Rattle.line.specs.Stated.{IsField, AreFields, none, more, IsLine, StatesGroup, StatesTask, StatesUse, UseFigures, held_pair}
use Rattle.line.proofs.StatedLaws.{count_field_lem, time_field_lem, group_word, task_word, alpha_word, use_word}
use Rattle.listing.specs.Lines.{lines, ends_in_LF}
use Rattle.listing.specs.Read.{no_lines, after_task, after_group, past_after, table_after, read_lines}
use Rattle.meaning.specs.Figures.{AlphaFigure, no_alpha, alpha_of, TaskFigures, GroupFigures, Figures, StatesGroups, by_group_line, StatesAlpha, no_alpha_line, by_alpha_line, StatesUses, by_use_line, StatesTasks, by_task_line, GoodGroups, GoodUses, GoodAlpha, last_with, GoodTasks, alpha_lines, alphas_of}
use Rattle.meaning.specs.Refusals.{last_group, last_task, last_k, sum_CT, last_alpha_of, left_of, left_after, left_by, line_count}
use Rattle.meaning.proofs.SplitLaws.{line_split, line_shut, begun}
use Rattle.meaning.proofs.SaysLaws.{says_group, says_task, says_alpha, says_use}
use Rattle.meaning.proofs.TableLaws.{store_groups, store_uses, store_alpha, store_tasks}

abbrev pub read_text : Table → Past → ℕ → List ℕ → Reading
read_text t past n s = read_lines t past n (lines s) (ends_in_LF true s)

-- a line of a word and fields, where every such line says x
pub line_read : (word : String) {ws : List (List ℕ)} (rest : List ℕ) (t : Table) (past : Past) (n : ℕ) (x : Said) → IsField (bytes word) → AreFields ws
    → ((l : List ℕ) → IsLine word ws l → line_says past n l ≡ Ok x)
    → read_text t past n (line_of word ws ++ rest) ≡ read_text (table_after t past.tasks x) (past_after past x) (n + 1) rest
unfolding read_lines
line_read word rest t past n x a b says =
    let r = begun word rest a b in
    rw (r.text, line_split rest r.clean, line_shut rest r.clean true, says r.l r.line)

-- ---- what groups, an alpha, uses and tasks leave, after what those before them left

abbrev pub past_groups : Past → List GroupFigures → Past
past_groups past [] = past
past_groups past (x ∷ xs) = past_groups (past_after past (Group x.G (record { 0 = x.K }))) xs

pub groups_left : (K : ℕ) (xs : List GroupFigures) → past_groups (after_group no_lines (record { 0 = K })) xs ≡ after_group no_lines (record { 0 = last_group K xs })
unfolding past_after
groups_left K [] = refl
groups_left K (x ∷ xs) = groups_left x.K xs

abbrev pub past_alpha : Past → AlphaFigure → Past
past_alpha past no_alpha = past
past_alpha past (alpha_of A) = past_after past (Alpha A)

abbrev pub past_uses : Past → List UseFigures → Past
past_uses past [] = past
past_uses past (u ∷ us) = past_uses (past_after past (Use (record { 0 = u.K }) (held_pair u))) us

abbrev pub past_task : Past → TaskFigures → Past
past_task past x = left_of past.group (past.tasks + 1) (past.alphas + alpha_lines x.alpha) (last_with past.alpha x.alpha) x

abbrev pub past_tasks : Past → List TaskFigures → Past
past_tasks past [] = past
past_tasks past (x ∷ xs) = past_tasks (past_task past x) xs

-- after a use and others
used : Past → UseFigures → List UseFigures → Past
used past u us =
    record {
      group = past.group;
      tasks = past.tasks;
      run = past.run;
      last = record { 0 = last_k u.K us };
      sum = past.sum + sum_CT (u ∷ us);
      alphas = past.alphas;
      alpha = past.alpha;
      fresh = false;
    }

uses_left : (past : Past) (u : UseFigures) (us : List UseFigures) → past_uses past (u ∷ us) ≡ used past u us
unfolding past_after used
uses_left past u [] = rw (add-zero u.CT.held)
uses_left past u (v ∷ us) =
    let e : past.sum + u.CT.held + sum_CT (v ∷ us) ≡ past.sum + (u.CT.held + sum_CT (v ∷ us)) = omega arith in
    uses_left (past_after past (Use (record { 0 = u.K }) (held_pair u))) v us ∙ rw e

-- a task with its alpha and its uses
pub task_left : (past : Past) (x : TaskFigures) → past_uses (past_alpha (after_task past x.C.held) x.alpha) x.uses ≡ past_task past x
unfolding past_after used
task_left past x = go x.alpha x.uses
  where
    go : (a : AlphaFigure) (us : List UseFigures) → past_uses (past_alpha (after_task past x.C.held) a) us
        ≡ left_of past.group (past.tasks + 1) (past.alphas + alpha_lines a) (last_with past.alpha a) (record { T = x.T; C = x.C; D = x.D; alpha = a; uses = us })
    go no_alpha [] = rw (add-zero past.alphas)
    go (alpha_of A) [] = refl
    go no_alpha (u ∷ us) = uses_left (after_task past x.C.held) u us ∙ rw (add-zero past.alphas, zero-add (sum_CT (u ∷ us)))
    go (alpha_of A) (u ∷ us) = uses_left (past_alpha (after_task past x.C.held) (alpha_of A)) u us ∙ rw (zero-add (sum_CT (u ∷ us)))

past_more : (past : Past) (x : TaskFigures) (xs : List TaskFigures)
    → past_tasks past (x ∷ xs) ≡ left_of past.group (past.tasks + suc (length xs)) (past.alphas + alphas_of (x ∷ xs)) (last_alpha_of past.alpha (x ∷ xs)) (last_task x xs)
past_more past x [] = rw (add-zero (alpha_lines x.alpha))
past_more past x (y ∷ ys) =
    let n : past.tasks + 1 + suc (length ys) ≡ past.tasks + suc (suc (length ys)) = omega arith in
    let a : past.alphas + alpha_lines x.alpha + alphas_of (y ∷ ys) ≡ past.alphas + (alpha_lines x.alpha + alphas_of (y ∷ ys)) = omega arith in
    past_more (past_task past x) y ys ∙ rw (n, a)

pub past_after_lem : (K : Resource) (xs : List TaskFigures) → past_tasks (after_group no_lines K) xs ≡ left_after K xs
past_after_lem K [] = refl
past_after_lem K (x ∷ xs) = past_more (after_group no_lines K) x xs ∙ rw (zero-add (suc (length xs)), zero-add (alphas_of (x ∷ xs)))

pub past_all : (f : Figures) → past_tasks (past_groups no_lines f.groups) f.tasks ≡ left_by f
past_all f = ap (λ (past : Past). past_tasks past f.tasks) (groups_left 0 f.groups) ∙ past_after_lem _ f.tasks

-- the fields of a line that states figures
pub group_fields : {g k : List ℕ} {G K : ℕ} → StatesGroup g k G K → AreFields (g ∷ k ∷ [])
group_fields s = more (count_field_lem s.group) (more (count_field_lem s.resource) none)

pub task_fields : {t c d : List ℕ} {x y z : Time} → StatesTask t c d x y z → AreFields (t ∷ c ∷ d ∷ [])
task_fields s = more (time_field_lem s.period) (more (time_field_lem s.run) (more (time_field_lem s.deadline) none))

pub use_fields : {k n c ct : List ℕ} {u : UseFigures} → StatesUse k n c ct u → AreFields (k ∷ n ∷ c ∷ ct ∷ [])
use_fields s = more (count_field_lem s.resource) (more (count_field_lem s.requests) (more (time_field_lem s.longest) (more (time_field_lem s.total) none)))

-- the groups, and then what follows them
pub groups_read : {s : List ℕ} {xs : List GroupFigures} (rest : List ℕ) (t : Table) (past : Past) (n : ℕ)
    → StatesGroups s xs → GoodGroups past.group.0 xs → 1 < n → past.tasks ≡ 0
    → read_text t past n (s ++ rest) ≡ read_text (store_groups t xs) (past_groups past xs) (n + length xs) rest
unfolding past_after table_after
groups_read rest t past n StatesGroups.no_group GoodGroups.no_group h e = rw (add-zero n)
groups_read rest t past n (by_group_line {g} {k} {rest = z} {x} {xs} a r) (GoodGroups.one_group i j b c q) h e =
    let said = Group x.G (record { 0 = x.K }) in
    let m : n + suc (length xs) ≡ n + 1 + length xs = omega arith in
    ap (read_text t past n) (append_assoc (line_of "group" (g ∷ k ∷ [])) z rest)
    ∙ line_read "group" (z ++ rest) t past n said group_word (group_fields a) (λ l w. says_group past n l w h e a i j b c)
    ∙ groups_read rest (table_after t past.tasks said) (past_after past said) (n + 1) r q (omega arith) e
    ∙ rw m

-- the alpha of the last task, and then what follows it
alpha_read : {s : List ℕ} {a : AlphaFigure} (rest : List ℕ) (t : Table) (past : Past) (n : ℕ) → StatesAlpha s a → GoodAlpha past.alpha a → past.fresh ≡ true
    → read_text t past n (s ++ rest) ≡ read_text (store_alpha t past.tasks a) (past_alpha past a) (n + alpha_lines a) rest
alpha_read rest t past n no_alpha_line GoodAlpha.not_given e = rw (add-zero n)
alpha_read rest t past n (by_alpha_line {A = A} c) (GoodAlpha.given least most follows) e =
    line_read "alpha" rest t past n (Alpha A) alpha_word (more (count_field_lem c) none)
    (λ l w. says_alpha past n l w e c least most ((may_follow_is past.alpha A).1 follows))

-- the uses of the last task, and then what follows them
uses_read : {s : List ℕ} {us : List UseFigures} (rest : List ℕ) (t : Table) (past : Past) (n : ℕ)
    → StatesUses s us → GoodUses past.run past.last.0 past.sum us → 0 < past.tasks
    → read_text t past n (s ++ rest) ≡ read_text (store_uses t past.tasks us) (past_uses past us) (n + length us) rest
unfolding past_after
uses_read rest t past n StatesUses.no_use GoodUses.no_use h = rw (add-zero n)
uses_read rest t past n (by_use_line {k} {n = v} {c} {ct} {rest = z} {u = f} {us} a r) (GoodUses.one_use x y g i q) h =
    let said = Use (record { 0 = f.K }) (held_pair f) in
    let e : n + suc (length us) ≡ n + 1 + length us = omega arith in
    ap (read_text t past n) (append_assoc (line_of "use" (k ∷ v ∷ c ∷ ct ∷ [])) z rest)
    ∙ line_read "use" (z ++ rest) t past n said use_word (use_fields a) (λ l w. says_use past n l w h a y x g i)
    ∙ uses_read rest (table_after t past.tasks said) (past_after past said) (n + 1) r q h
    ∙ rw e

-- what an alpha leaves of what its uses are judged by
record Kept (past after : Past) : Type 0 where
  tasks : after.tasks ≡ past.tasks
  run : after.run ≡ past.run
  last : after.last ≡ past.last
  sum : after.sum ≡ past.sum

alpha_keeps : (past : Past) (a : AlphaFigure) → Kept past (past_alpha past a)
unfolding past_after
alpha_keeps past no_alpha = record { tasks = refl; run = refl; last = refl; sum = refl }
alpha_keeps past (alpha_of A) = record { tasks = refl; run = refl; last = refl; sum = refl }

pub tasks_read : {s : List ℕ} {xs : List TaskFigures} (rest : List ℕ) (t : Table) (past : Past) (n : ℕ) → StatesTasks s xs → GoodTasks past.alpha xs
    → 1 < n → past.tasks + length xs ≤ max_tasks
    → read_text t past n (s ++ rest) ≡ read_text (store_tasks t past.tasks xs) (past_tasks past xs) (n + line_count xs) rest
unfolding past_after
tasks_read rest t past n StatesTasks.no_tasks GoodTasks.no_tasks h few = rw (add-zero n)
tasks_read rest t past n (by_task_line {t = w} {c} {d} {alpha = b} {uses = s} {rest = z} {x} {xs} a o p r) (GoodTasks.one_task g j q) h few =
    let said = TaskLine x.T.held x.C.held x.D.held in
    let fresh = after_task past x.C.held in
    let now = past_alpha fresh x.alpha in
    let k = alpha_keeps fresh x.alpha in
    let line = table_after t past.tasks said in
    let stored = store_alpha line (past.tasks + 1) x.alpha in
    let m = n + 1 + alpha_lines x.alpha in
    let e : m + length x.uses + line_count xs ≡ n + suc (alpha_lines x.alpha + length x.uses + line_count xs) = omega arith in
    let first = line_of "task" (w ∷ c ∷ d ∷ []) in
    ap (read_text t past n) (append_assoc first (b ++ (s ++ z)) rest ∙ ap (λ (y : List ℕ). first ++ y) (append_assoc b (s ++ z) rest ∙ ap (λ (y : List ℕ). b ++ y) (append_assoc s z rest)))
    ∙ line_read "task" (b ++ (s ++ (z ++ rest))) t past n said task_word (task_fields a) (λ l w. says_task past n l w h a (omega arith) g.times)
    ∙ alpha_read (s ++ (z ++ rest)) line fresh (n + 1) o j refl
    ∙ uses_read (z ++ rest) stored now m p (rw (k.run, k.last, k.sum) g.uses) (rw k.tasks (omega arith))
    ∙ rw (k.tasks, task_left past x)
    (tasks_read rest (store_uses stored (past.tasks + 1) x.uses) (past_task past x) (m + length x.uses) r q (omega arith) (omega arith) ∙ rw e)
