-- Writing and reading an archive undo each other (specs/Undo.antt).
-- Assumes nothing.
use Prim.Native.Nat.{ℕ, ◌<◌}
use mathlib.Core.Path.{◌≡◌, sym, ap, ◌∙◌}
use mathlib.Core.List.{List}
use native.Mathlib.Omega.{arith}
use borrow.Author.Tests.{ltb-true, lt-ltb}
use lib.Dec.{ltb}
use lib.ListN.{length-replicate, get_or-replicate}
use Rattle.basics.specs.Choice.{pick}
use Rattle.basics.specs.Over.{join_to, row_to}
use Rattle.basics.proofs.JoinLaws.{join_eq}
use Rattle.basics.proofs.RowLaws.{row_at, row_is, row_eq}
use Rattle.basics.proofs.ChoiceLaws.{pick_when}
use Rattle.table.specs.declared.Task.{Task}
use Rattle.table.specs.declared.Table.{Table}
use Rattle.std.specs.Prelude.{Ok}
use Rattle.table.specs.Limits.{max_tasks, max_resources}
use Rattle.table.specs.Empty.{no_groups, empty_task}
use Rattle.table.specs.At.{no_task, task_at, group_at, NoGroup, pair_of, SameTask}
use Rattle.table.specs.Accepted.{Accepted}
use Rattle.table.specs.Rules.{table_fault}
use Rattle.table.specs.Without.{without_alpha}
use Rattle.table.proofs.WithoutLaws.{without_at, without_fine, none_cleared}
use Rattle.table.specs.Cleared.{cleared_task, cleared}
use Rattle.table.proofs.RuleLaws.{pair_bounds}
use Rattle.table.proofs.Acceptance.{fine_accepted}
use Rattle.table.proofs.Sameness.{cleared_same, same_fault}
use Rattle.block.specs.declared.Head.{Head}
use Rattle.block.specs.Block.{times_bytes, entry_bytes, entries_bytes, body_of, block_of, head_in, task_in}
use Rattle.block.proofs.BlockLaws.{block_length}
use Rattle.card.specs.Archive.{head_for, block_for, archive_of, block_at, blocks_in, table_in, read_archive}
use Rattle.card.proofs.ArchiveLaws.{archive_length}
use Rattle.table.specs.Answers.{accepted}
use Rattle.card.proofs.ReadLaws.{accepted_is, card_none, card_ungrouped, accepted_passes}
use Rattle.release.specs.Undo.{Bytes, ReadsBack, DropsAlpha, AlphaAlone, ReadsNone, ReadsUngrouped, WritesAgain, SameArchive, OneArchive, PassesCheck}
use Rattle.release.specs.Refusals.{Whole, InPlace}
use Rattle.release.proofs.BlockIs.{block_is}
use Rattle.release.proofs.BlockBack.{Fits, good_back, head_back, task_back}
use Rattle.release.proofs.Parts.{part_of_lem, parts_joined, block_bytes, whole_blocks, Kept, fine_kept, kept_fine}

-- ---- the archive of an accepted table without groups

-- its groups are those of a card
no_groups_lem : (t : Table) → NoGroup t → no_groups ≡ row_to max_resources (group_at t)
no_groups_lem t z = row_is max_resources (group_at t) 0 no_groups (length-replicate {A = ℕ} max_resources 0) (λ k h. get_or-replicate max_resources k 0 0 h ∙ sym (z k h))

module _ (t : Table) (e : table_fault t ≡ Ok tt) (z : NoGroup t) where
  good : Accepted t
  good = fine_accepted t e

  fits : (i : ℕ) → i < t.n → Fits (head_for t i) (task_at t i)
  fits i h =
      let g = good.task i h in
      record {
        cpus = omega (arith, good.cpus_most);
        n = omega (arith, good.tasks_most);
        number = omega (arith, good.tasks_most);
        period = omega (arith, g.times);
        run = omega (arith, g.times);
        deadline = omega (arith, g.times);
        requests = λ k l. omega (arith, (pair_bounds (pair_of (task_at t i) k) (g.pair k l)).requests_most);
        longest = λ k l. let b = pair_bounds (pair_of (task_at t i) k) (g.pair k l) in omega (arith, b.longest_total, b.total_most);
        total = λ k l. omega (arith, (pair_bounds (pair_of (task_at t i) k) (g.pair k l)).total_most);
      }

  block_at_lem : (i : ℕ) → i < t.n → block_at (archive_of t) i ≡ block_for t i
  unfolding archive_of
  block_at_lem i h = part_of_lem t.n i (block_for t) (λ k l. block_length (head_for t k) (task_at t k)) h

  whole : Whole (archive_of t) t.n
  whole = record { least = good.tasks_least; most = good.tasks_most; long = archive_length t }

  head_at : (i : ℕ) → i < t.n → head_in (block_at (archive_of t) i) ≡ head_for t i
  head_at i h = ap head_in (block_at_lem i h) ∙ head_back (head_for t i) (task_at t i) (fits i h)

  table_is : table_in (archive_of t) ≡ cleared (without_alpha t)
  unfolding table_in cleared without_alpha
  table_is =
      rw (
        whole_blocks whole,
        head_at 0 good.tasks_least,
        no_groups_lem t z,
        row_eq max_tasks _ (λ i. pick (ltb i t.n) (cleared_task (task_at (without_alpha t) i)) empty_task)
            (λ i h. pick_when empty_task (ltb i t.n) (λ l. ap task_in (block_at_lem i (ltb-true _ _ l)) ∙ task_back (head_for t i) (task_at t i) (fits i (ltb-true _ _ l)) ∙ ap cleared_task (sym (without_at t i)))),
      )

  in_place : (i : ℕ) → i < t.n → InPlace (archive_of t) t.n i
  unfolding head_in
  in_place i h =
      let here = head_at i h in
      let first = head_at 0 good.tasks_least in
      record {
        cpus = ap (λ (x : Head). x.cpus) here ∙ sym (ap (λ (x : Head). x.cpus) first);
        n_first = ap (λ (x : Head). x.n) here ∙ sym (ap (λ (x : Head). x.n) first);
        n_blocks = ap (λ (x : Head). x.n) here;
        number = ap (λ (x : Head). x.number) here;
      }

  kept : Kept (archive_of t)
  kept =
      record {
        whole = rw (whole_blocks whole) whole;
        good = rw (whole_blocks whole) (λ i h. (rw (block_at_lem i h) (good_back (head_for t i) (task_at t i)), in_place i h));
        table = let f = without_fine t e in rw table_is (sym (same_fault (without_alpha t) (cleared (without_alpha t)) (cleared_same (without_alpha t) f)) ∙ f);
      }

pub drops_alpha : DropsAlpha
unfolding read_archive
drops_alpha t e z = rw (kept_fine (archive_of t) (kept t e z), table_is t e z)

pub reads_back : ReadsBack
reads_back t e a z = drops_alpha t e z ∙ ap accepted (none_cleared t a)

-- ---- an accepted archive, written again

module _ (a : List ℕ) (k : Kept a) where
  head_is : (i : ℕ) → InPlace a (blocks_in a) i → head_in (block_at a i) ≡ head_for (table_in a) i
  unfolding head_in table_in
  head_is i p = λ j. record { cpus = p.cpus j; n = p.n_blocks j; number = p.number j }

  task_is : (i : ℕ) → i < blocks_in a → task_in (block_at a i) ≡ task_at (table_in a) i
  unfolding table_in
  task_is i h = sym (row_at max_tasks i _ no_task (omega (arith, k.whole.most)) ∙ rw (lt-ltb i (blocks_in a) h))

  same_block : Bytes a → (i : ℕ) → i < blocks_in a → block_for (table_in a) i ≡ block_at a i
  same_block bytes i h =
      let g = k.good i h in
      rw (← head_is i g.1, ← task_is i h) (block_is (block_at a i) (block_bytes a i bytes g.0.long) g.0)

  again : Bytes a → archive_of (table_in a) ≡ a
  unfolding archive_of table_in
  again bytes = join_eq (blocks_in a) (block_for (table_in a)) (block_at a) (same_block bytes) ∙ parts_joined a (blocks_in a) k.whole.long

pub writes_again : WritesAgain
writes_again a t bytes e =
    let p = accepted_is a t e in
    rw (← p.1) (again a (fine_kept a p.0) bytes)

pub reads_none : ReadsNone
reads_none a t e = let p = accepted_is a t e in rw (← p.1) (card_none a)

pub reads_ungrouped : ReadsUngrouped
reads_ungrouped a t e = let p = accepted_is a t e in rw (← p.1) (card_ungrouped a)

pub passes_check : PassesCheck
passes_check = accepted_passes

-- ---- one archive for one table

block_same : (h : Head) (x y : Task) → SameTask x y → block_of h x ≡ block_of h y
unfolding block_of body_of times_bytes entries_bytes
block_same h x y s =
    rw (s.period, s.run, s.deadline, join_eq max_resources (λ k. entry_bytes (pair_of x k)) (λ k. entry_bytes (pair_of y k)) (λ k l. ap entry_bytes (s.pairs k l)))

pub same_archive : SameArchive
unfolding archive_of
same_archive s t q =
    join_eq s.n (block_for s) (block_for t) (λ i h. rw (q.cpus, q.n) (block_same (head_for t i) (task_at s i) (task_at t i) (q.tasks i h)))
    ∙ ap (λ (n : ℕ). join_to n (block_for t)) q.n

-- a block has no alpha
archive_without : (t : Table) → archive_of (without_alpha t) ≡ archive_of t
unfolding archive_of block_of body_of times_bytes entries_bytes without_alpha
archive_without t = join_eq t.n _ (block_for t) (λ i h. ap (block_of (head_for t i)) (without_at t i))

pub alpha_alone : AlphaAlone
alpha_alone s t q = sym (archive_without s) ∙ same_archive (without_alpha s) (without_alpha t) q ∙ archive_without t

pub one_archive : OneArchive
one_archive a b s t x y p q same = sym (writes_again a s x p) ∙ same_archive s t same ∙ writes_again b t y q
