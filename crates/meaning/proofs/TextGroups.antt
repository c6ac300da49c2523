-- The group lines of an accepted table's text state its groups.
-- Assumes nothing.
use Prim.Native.Nat.{ℕ, suc, ◌≤◌, ◌<◌}
use mathlib.Core.Path.{◌≡◌, refl}
use mathlib.Core.List.{List, [], ◌∷◌, ◌++◌}
use native.Mathlib.Omega.{arith}
use native.Mathlib.Decide.{ℕ_discrete}
use borrow.Author.Tests.{lt-ltb}
use Rattle.basics.specs.Over.{join_to}
use Rattle.basics.proofs.JoinLaws.{join_from}
use Rattle.table.specs.declared.Table.{Table}
use Rattle.table.specs.Limits.{max_resources}
use Rattle.table.specs.At.{group_at}
use Rattle.table.specs.Accepted.{Accepted}
use Rattle.writing.specs.Write.{group_text, member_text}
use Rattle.meaning.specs.Figures.{GroupFigures, StatesGroups, by_group_line, GoodGroups}
use Rattle.meaning.proofs.FieldBack.{count_text_lem}
use Rattle.meaning.proofs.PutRows.{Holds, holds_none, holds_skip, holds_more}
use Rattle.meaning.proofs.GroupRows.{resource_of, group_of}

-- s states the groups of t from resource k + 1 on: they obey the rules after a group line of any resource before, and hold t's groups
pub record GroupsFrom (t : Table) (k : ℕ) (s : List ℕ) : Type 0 where
  pub groups : List GroupFigures
  pub states : StatesGroups s groups
  pub good : (last : ℕ) → last ≤ k → GoodGroups last groups
  pub holds : Holds resource_of group_of 0 k groups (group_at t)

module _ {t : Table} {k : ℕ} {s : List ℕ} (r : GroupsFrom t (suc k) s) where
  -- a resource without a group is not written
  skip_group : group_at t k ≡ 0 → GroupsFrom t k s
  skip_group e =
      record {
        groups = r.groups;
        states = r.states;
        good = λ last h. r.good last (omega arith);
        holds = holds_skip resource_of group_of 0 r.holds e;
      }

  write_group : Accepted t → k < max_resources → 1 ≤ group_at t k → GroupsFrom t k (group_text (group_at t k) (suc k) ++ s)
  unfolding group_text
  write_group g h l =
      let m = g.groups_most k h in
      record {
        groups = x ∷ r.groups;
        states = by_group_line {x = x} (record { group = count_text_lem _ (omega arith); resource = count_text_lem _ (omega arith) }) r.states;
        good = λ last a. GoodGroups.one_group {last = last} {x = x} l m (omega arith) h (r.good (suc k) (omega arith));
        holds = holds_more resource_of group_of 0 r.holds x refl refl;
      }
    where
      x : GroupFigures
      x = record { G = group_at t k; K = suc k }

pub groups_from : (t : Table) → Accepted t → GroupsFrom t 0 (join_to max_resources (member_text t.groups))
unfolding member_text
groups_from t g =
    join_from (GroupsFrom t) max_resources (member_text t.groups) (λ k s h r. go k s h r (ℕ_discrete (group_at t k) 0))
    (record { groups = []; states = StatesGroups.no_group; good = λ last h. GoodGroups.no_group; holds = holds_none resource_of group_of 0 (group_at t) })
  where
    go : (k : ℕ) (s : List ℕ) → k < max_resources → GroupsFrom t (suc k) s → Dec (group_at t k ≡ 0) → GroupsFrom t k (member_text t.groups k ++ s)
    go k s h r (yes e) = rw e (skip_group r e)
    go k s h r (no e) = rw (lt-ltb 0 (group_at t k) (omega arith)) (write_group r g h (omega arith))
