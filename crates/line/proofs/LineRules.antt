-- Each kind of line, by its rules.
-- Assumes nothing.
use Prim.Native.Nat.{ℕ, ◌+◌, ◌≤◌, ◌<◌}
use mathlib.Core.Path.{◌≡◌}
use mathlib.Core.Bool.{true}
use mathlib.Core.List.{List}
use Rattle.std.specs.Prelude.{Option, Result, Ok, Err}
use Rattle.basics.specs.Text.{bytes}
use Rattle.table.specs.declared.Pair.{Pair}
use Rattle.table.specs.declared.Refusal.{Refusal}
use Rattle.table.specs.declared.Resource.{Resource}
use Rattle.table.specs.Limits.{max_cpus, max_tasks, max_resources, max_group, max_alpha}
use Rattle.table.specs.Rules.{may_follow}
use Rattle.table.specs.Accepted.{GoodTimes, GoodPair}
use Rattle.field.specs.declared.Field.{Field}
use Rattle.field.specs.declared.Rounding.TheVariants.{Down, Up}
use Rattle.line.specs.declared.Past.{Past}
use Rattle.line.specs.declared.Said.{Said}
use Rattle.line.specs.declared.Said.TheVariants.{Cpus, Group, Task as TaskLine, Alpha, Use}
use Rattle.line.specs.Fields.{form}
use Rattle.line.specs.Line.{count_in, time_in}
use Rattle.line.proofs.StatedLaws.{IsRead}

-- ---- each kind of line, by its rules

pub record CpusRules (f : Option Field) (M : ℕ) : Type 0 where
  pub field : IsRead f M
  pub least : 1 ≤ M
  pub most : M ≤ max_cpus

pub record GroupRules (past : Past) (f g : Option Field) (G : ℕ) (K : Resource) : Type 0 where
  pub group : IsRead f G
  pub resource : IsRead g K.0
  pub group_least : 1 ≤ G
  pub group_most : G ≤ max_group
  pub least : 1 ≤ K.0
  pub most : K.0 ≤ max_resources
  pub rising : past.group.0 < K.0

pub record TaskRules (past : Past) (f g h : Option Field) (T C D : ℕ) : Type 0 where
  pub period : IsRead f T
  pub run : IsRead g C
  pub deadline : IsRead h D
  pub room : past.tasks < max_tasks
  pub times : GoodTimes T C D

pub record AlphaRules (past : Past) (f : Option Field) (A : ℕ) : Type 0 where
  pub field : IsRead f A
  pub least : 1 ≤ A
  pub most : A ≤ max_alpha
  pub follows : may_follow past.alpha A ≡ true

pub record UseRules (past : Past) (f g h i : Option Field) (K : Resource) (p : Pair) : Type 0 where
  pub resource : IsRead f K.0
  pub requests : IsRead g p.requests
  pub longest : IsRead h p.longest
  pub total : IsRead i p.total
  pub least : 1 ≤ K.0
  pub most : K.0 ≤ max_resources
  pub rising : past.last.0 < K.0
  pub good : GoodPair p
  pub fits : past.sum + p.total ≤ past.run

-- what a line is that says this
pub data Line (past : Past) (n : ℕ) (s : List ℕ) : Result Said Refusal → Type 0 where
  is_cpus : {M : ℕ} → form (bytes "cpus") 2 s ≡ true → n ≡ 1 → CpusRules (count_in s 1) M → Line past n s (Ok (Cpus M))
  is_group : {G : ℕ} {K : Resource} → form (bytes "group") 3 s ≡ true → 1 < n → past.tasks ≡ 0 → GroupRules past (count_in s 1) (count_in s 2) G K → Line past n s (Ok (Group G K))
  is_task : {T C D : ℕ} → form (bytes "task") 4 s ≡ true → 1 < n → TaskRules past (time_in Down s 1) (time_in Up s 2) (time_in Down s 3) T C D
      → Line past n s (Ok (TaskLine T C D))
  is_alpha : {A : ℕ} → form (bytes "alpha") 2 s ≡ true → past.fresh ≡ true → AlphaRules past (count_in s 1) A → Line past n s (Ok (Alpha A))
  is_use : {K : Resource} {p : Pair} → form (bytes "use") 5 s ≡ true → 0 < past.tasks
      → UseRules past (count_in s 1) (count_in s 2) (time_in Up s 3) (time_in Up s 4) K p → Line past n s (Ok (Use K p))
  is_not : (r : Refusal) → Line past n s (Err r)
