-- Document 01, "Refusals by number", and requests 8/12 and 9/12 of document 02, of a listing, said a second way: the number and the place that it calls for. `listing` reads line after line, each after what those before it
-- left; here each case stands by itself: the lines before a line state figures, and what that line calls for after them is said in `line/specs/Refusals`.
use Rattle.std.specs.Prelude.{ℕ, suc, ◌+◌, ◌≤◌, ◌<◌, ◌≡◌, Bool, true, false, List, [], ◌∷◌, ◌++◌, length}
use Rattle.basics.specs.Exactly.{◌exactly_if◌}
use Rattle.table.specs.Limits.{max_listing}
use Rattle.table.specs.Faults.{Refuses}
use Rattle.table.specs.declared.Resource.{Resource}
use Rattle.line.specs.declared.Past.{Past}
use Rattle.line.specs.Stated.{Without, UseFigures}
use Rattle.line.specs.Refusals.{LineCallsFor, LineRefused}
use Rattle.listing.specs.Read.{read_listing}
use Rattle.meaning.specs.Figures.{AlphaFigure, no_alpha, alpha_of, TaskFigures, GroupFigures, Figures, StatesFigures, last_with, alpha_lines, alphas_of, GoodSoFar}

-- ---- what the lines before a line state

-- "the K of the group line before": that of the last of these, or K where there is none
abbrev pub last_group : ℕ → List GroupFigures → ℕ
last_group K [] = K
last_group K (x ∷ xs) = last_group x.K xs

-- the last of x and these tasks
abbrev pub last_task : TaskFigures → List TaskFigures → TaskFigures
last_task x [] = x
last_task x (y ∷ ys) = last_task y ys

-- "the K before it in the task": that of the last of these uses, or K where there is none
abbrev pub last_k : ℕ → List UseFigures → ℕ
last_k K [] = K
last_k K (u ∷ us) = last_k u.K us

-- "the CT so far"
abbrev pub sum_CT : List UseFigures → ℕ
sum_CT [] = 0
sum_CT (u ∷ us) = u.CT.held + sum_CT us

-- the alpha "of the last task .. with one", or `last` where none of these has one
abbrev pub last_alpha_of : ℕ → List TaskFigures → ℕ
last_alpha_of last [] = last
last_alpha_of last (x ∷ xs) = last_alpha_of (last_with last x.alpha) xs

-- no line stands after a task's own
abbrev pub is_fresh : AlphaFigure → List UseFigures → Bool
is_fresh no_alpha [] = true
is_fresh no_alpha (u ∷ us) = false
is_fresh (alpha_of A) us = false

-- what n tasks leave for the next line, after a group line of K (0: none), x the last of them: K, n, of x its C, the last K and the sum of CT, how many have an alpha, the last alpha, and whether x is fresh
abbrev pub left_of : Resource → ℕ → ℕ → ℕ → TaskFigures → Past
left_of K n alphas alpha x =
    record {
      group = K;
      tasks = n;
      run = x.C.held;
      last = record { 0 = last_k 0 x.uses };
      sum = sum_CT x.uses;
      alphas = alphas;
      alpha = alpha;
      fresh = is_fresh x.alpha x.uses;
    }

-- what tasks leave, after a group line of K
abbrev pub left_after : Resource → List TaskFigures → Past
left_after K [] = record { group = K; tasks = 0; run = 0; last = record { 0 = 0 }; sum = 0; alphas = 0; alpha = 0; fresh = false }
left_after K (x ∷ xs) = left_of K (suc (length xs)) (alphas_of (x ∷ xs)) (last_alpha_of 0 (x ∷ xs)) (last_task x xs)

-- and what lines that state these figures leave
abbrev pub left_by : Figures → Past
left_by f = left_after (record { 0 = last_group 0 f.groups }) f.tasks

-- how many lines state these tasks: one for each, one for each alpha, and one for each use
abbrev pub line_count : List TaskFigures → ℕ
line_count [] = 0
line_count (x ∷ xs) = suc (alpha_lines x.alpha + length x.uses + line_count xs)

-- the number of the line after those that state these figures: `cpus`, one for each group, and those of the tasks
abbrev pub next_line : Figures → ℕ
next_line f = 2 + (length f.groups + line_count f.tasks)

-- the figures of no line
abbrev pub nothing_stated : Figures
nothing_stated = record { M = 0; groups = []; tasks = [] }

-- s is what stands before line n: nothing, or `cpus M` and lines that state these figures, with nothing said against any
pub data Before : List ℕ → ℕ → Figures → Type 0 where
  no_line : Before [] 1 nothing_stated
  some_lines : {s : List ℕ} {f : Figures} → StatesFigures s f → GoodSoFar f → Before s (next_line f) f

-- ---- the number and the place that the paper's table calls for

pub data CallsFor (s : List ℕ) : ℕ → ℕ → Type 0 where
  -- "1 comes before all else", "it is 0 for 1"
  too_long : max_listing < length s → CallsFor s 1 0
  -- "Then lines in order; .. the first fault deciding .. The place is the line, counted from 1"
  at_line : (before l rest : List ℕ) {n number : ℕ} {f : Figures} → length s ≤ max_listing → s ≡ before ++ (l ++ (10 ∷ rest)) → Without 10 l
      → Before before n f → LineCallsFor (left_by f) n l number → CallsFor s number n
  -- 2, "last line without LF"
  not_ended : (before l : List ℕ) {n : ℕ} {f : Figures} → length s ≤ max_listing → s ≡ before ++ l → Without 10 l → 1 ≤ length l
      → Before before n f → CallsFor s 2 n
  -- 2, "or an empty listing", at line 1
  empty : s ≡ [] → CallsFor s 2 1
  -- "9 comes at the end", "2 for 9", however many groups there are
  no_tasks : {f : Figures} → length s ≤ max_listing → StatesFigures s f → GoodSoFar f → f.tasks ≡ [] → CallsFor s 9 2
  -- 17, "alpha given for some tasks only, place 0, after 9 at a listing's end"
  alpha_missing : {f : Figures} → length s ≤ max_listing → StatesFigures s f → GoodSoFar f → 1 ≤ alphas_of f.tasks → alphas_of f.tasks < length f.tasks → CallsFor s 17 0

-- ---- the two agree

pub record RefusedAsCalled : Type 0 where
  -- a line is refused with the number that it calls for, and at its own number
  pub line : LineRefused
  pub listing : (s : List ℕ) (number place : ℕ) → Refuses (read_listing s) number place exactly_if CallsFor s number place
