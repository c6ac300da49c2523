-- Demand 1: every input gets an answer that the contract determines; a refusal is given exactly when its rule is the first that fails,
-- and then everything lent holds what it held, with one amendment: of a card with bad blocks the list is written unless 15 or 11 is given. (That each function answers at all, and does nothing undefined, is what the checker proves of every function.)
use Rattle.std.specs.Prelude.{ℕ, ◌≡◌, List, ◌++◌, ◌⊎◌, length, drop, None, Err}
use contract.Lifetimes.{Lfts}
use contract.Monad.{Fun, fact}
use seplogic.Ra.Ura.{Ura}
use base.Logic.{SProp, ent}
use prog.Memory.{Memory}
use prog.Routine.{Routine}
use types.Logic.{Logic}
use denote.RattleType.{RattleType}
use denote.Param.Laws.{Laws}
use mir.Syntax.{Dict}
use denote.Triple.Entry.{Args}
use denote.Triple.Clauses.{AtExit}
use Rattle.basics.specs.Text.{put_into}
use Rattle.basics.specs.Determined.{Determined, DeterminedWith}
use Rattle.table.specs.declared.Refusal.{Refusal}
use Rattle.table.specs.declared.Table.{Table}
use Rattle.table.specs.Faults.{Checked, number_of, Refuses}
use Rattle.table.specs.Limits.{max_tasks}
use Rattle.table.specs.Empty.{empty_table}
use Rattle.table.specs.Rules.{table_fault}
use Rattle.put.specs.Text.{put_answer, put_answer_at, put_at}
use Rattle.listing.specs.Read.{read_listing}
use Rattle.writing.specs.Write.{write_fault, write_answer, written}
use Rattle.card.specs.Archive.{archiving_fault, archiving_answer, archiving, read_archive}
use Rattle.salvaging.specs.Fates.{code_of, codes_of}
use Rattle.salvaging.specs.Salvage.{blocks_of, salvage_fault, salvage_answer, listed, salvaged}
use Rattle.table.specs.Answers.{or_table, table_from}
use Rattle.theory.specs.Merge.{merged}
use Rattle.analysis.specs.declared.Record.{Record}
use Rattle.analysis.specs.Answers.{bound_of, analysis_fault, analysed, FillsRow}
use Rattle.waits.specs.Answers.{wait_answer, all_waits}
use Rattle.page.specs.declared.Page.{Page}
use Rattle.page.specs.declared.Cells.{Cells}
use Rattle.page.specs.Pages.{page_answer, page_into}
use Rattle.table.proofs.Fault.number.Reads as number
use Rattle.table.proofs.Table.empty.Reads as empty
use Rattle.checking.proofs.check.Reads as check
use Rattle.rules.proofs.first_of.Reads as first_of
use Rattle.rules.proofs.in_range.Reads as in_range
use Rattle.rules.proofs.pair.Reads as pair
use Rattle.rules.proofs.times.Reads as times
use Rattle.rules.proofs.times_in_range.Reads as times_in_range
use Rattle.rules.proofs.times_in_order.Reads as times_in_order
use Rattle.rules.proofs.all_or_none.Reads as all_or_none
use Rattle.rules.proofs.alpha.Reads as alpha
use Rattle.rules.proofs.asked.Reads as asked
use Rattle.rules.proofs.groups_in_range.Reads as groups_in_range
use Rattle.rules.proofs.has_group.Reads as has_group
use Rattle.rules.proofs.totals_fit.Reads as totals_fit
use Rattle.rules.proofs.used_in_range.Reads as used_in_range
use Rattle.field.proofs.ends_at.Reads as ends_at
use Rattle.put.proofs.count_len.Reads as count_len
use Rattle.std.proofs.option.Option.unwrap_or.Reads as put_length
use Rattle.put.proofs.put_text.Reads as put_text
use Rattle.put.proofs.time_len.Reads as time_len
use Rattle.field.proofs.count.Reads as count
use Rattle.field.proofs.time.Reads as time
use Rattle.put.proofs.put_count.Reads as put_count
use Rattle.put.proofs.put_time.Reads as put_time
use Rattle.put.proofs.spaced_count.Reads as spaced_count
use Rattle.line.proofs.line_of.Reads as line_of
use Rattle.listing.proofs.read.Reads as read
use Rattle.writing.proofs.write.Reads as write
use Rattle.refusal.proofs.put_refusal.Reads as put_refusal
use Rattle.checksum.proofs.check_of.Reads as check_of
use Rattle.block.proofs.put_block.Reads as put_block
use Rattle.block.proofs.is_good.Reads as is_good
use Rattle.block.proofs.head_of.Reads as head_of
use Rattle.block.proofs.task_of.Reads as task_of
use Rattle.card.proofs.write.Reads as card_write
use Rattle.card.proofs.read.Reads as card_read
use Rattle.salvaging.proofs.Fate.code.Reads as code
use Rattle.salvaging.proofs.blocks_of.Reads as blocks_of_reads
use Rattle.salvaging.proofs.salvage.Reads as salvage
use Rattle.rounds.proofs.outcome_of.Reads as outcome_of
use Rattle.shares.proofs.shares_of.Reads as shares_of
use Rattle.merging.proofs.merge.Reads as merge
use Rattle.analysis.specs.contracts.analyse as analyse
use Rattle.analysis.proofs.analyse_all.Reads as analyse_all
use Rattle.analysis.proofs.bound.Reads as bound
use Rattle.waits.proofs.wait.Reads as wait
use Rattle.waits.proofs.wait_all.Reads as wait_all
use Rattle.page.proofs.page_of.Reads as page_of
use Rattle.page.proofs.put_page.Reads as put_page
use Rattle.promises.specs.Words.{Answers, Leaves}
use Rattle.promises.specs.Refusals.{FirstDecides}

-- ---- the library's entry points answer what these definitions say: what follows, here and in the other files, is said of them

pub record Entries : Type 2 where
  pub number : Answers (number.Learnt tt) (λ a. number_of a.0)
  pub check : Answers (check.Learnt tt) (λ a. table_fault a.0)
  pub read : (κs : Lfts 1) → Answers (read.Learnt κs) (λ a. read_listing a.0.now)
  pub write_answers : (κs : Lfts 1) → Answers (write.Learnt κs) (λ a. write_answer a.0 (length a.1.0.now))
  pub write_leaves : (κs : Lfts 1) → Leaves (λ x. x.1.0.now) (write.Learnt κs) (λ a. written a.0 a.1.0.now)
  pub card_read : (κs : Lfts 1) → Answers (card_read.Learnt κs) (λ a. read_archive a.0.now)
  pub card_write_answers : (κs : Lfts 1) → Answers (card_write.Learnt κs) (λ a. archiving_answer a.0 (length a.1.0.now))
  pub card_write_leaves : (κs : Lfts 1) → Leaves (λ x. x.1.0.now) (card_write.Learnt κs) (λ a. archiving a.0 a.1.0.now)
  pub code : Answers (code.Learnt tt) (λ a. code_of a.0)
  pub blocks_of : Answers (blocks_of_reads.Learnt tt) (λ a. blocks_of a.0)
  pub salvage_answers : (κs : Lfts 3) → Answers (salvage.Learnt κs) (λ a. salvage_answer a.0.now (length a.1.0.now) (length a.1.1.0.now))
  pub salvage_lists : (κs : Lfts 3) → Leaves (λ x. x.1.0.now) (salvage.Learnt κs) (λ a. listed a.0.now a.1.0.now (length a.1.1.0.now))
  pub salvage_leaves : (κs : Lfts 3) → Leaves (λ x. x.1.1.0.now) (salvage.Learnt κs) (λ a. salvaged a.0.now (length a.1.0.now) a.1.1.0.now)
  pub merge : Answers (merge.Learnt tt) (λ a. or_table (table_fault a.0) (merged a.0))
  pub bound : Answers (bound.Learnt tt) (λ a. bound_of a.0 a.1.0 a.1.1.0)
  pub wait : Answers (wait.Learnt tt) (λ a. wait_answer a.0 a.1.0)
  pub wait_all : Answers (wait_all.Learnt tt) (λ a. all_waits a.0)
  -- of `analyse` its `ensures` itself, as the checker has it, at any arguments a, answer r and arguments at exit x: it says that the row is filled
  pub analyse : {M : Type 1} {𝓤 : Ura M} (𝓛 : Logic 𝓤) (mem : Memory → SProp 𝓤) (run : Routine → Fun 𝓤) (κs : Lfts 1)
      (a : Args analyse.signature κs) (r : Checked) (x : AtExit analyse.ended κs)
      → ent 𝓤 ((analyse.clauses 𝓛 mem run κs a).ensures tt r x) (fact 𝓤 (FillsRow a.0 a.1.0 a.1.1.0.now r x.1.1.0.now))
  pub analyse_all : Answers (analyse_all.Learnt tt) (λ a. record { answer = analysis_fault a.0 a.1.0 max_tasks; rows = analysed a.0 a.1.0 a.1.1.0 })

-- ---- two answers to one input are equal, and so is what then lies in everything lent

pub record Determines : Type 2 where
  pub number : Determined (number.Learnt tt)
  pub empty : Determined (empty.Learnt tt)
  pub check : Determined (check.Learnt tt)
  pub first_of : Determined (first_of.Learnt tt)
  pub in_range : Determined (in_range.Learnt tt)
  pub times_in_range : Determined (times_in_range.Learnt tt)
  pub times_in_order : Determined (times_in_order.Learnt tt)
  pub times : Determined (times.Learnt tt)
  pub groups_in_range : Determined (groups_in_range.Learnt tt)
  pub has_group : Determined (has_group.Learnt tt)
  pub all_or_none : Determined (all_or_none.Learnt tt)
  pub alpha : Determined (alpha.Learnt tt)
  pub used_in_range : Determined (used_in_range.Learnt tt)
  pub totals_fit : Determined (totals_fit.Learnt tt)
  pub pair : Determined (pair.Learnt tt)
  pub asked : Determined (asked.Learnt tt)
  pub time : (κs : Lfts 1) → Determined (time.Learnt κs)
  pub count : (κs : Lfts 1) → Determined (count.Learnt κs)
  pub ends_at : (κs : Lfts 1) → Determined (ends_at.Learnt κs)
  pub time_len : Determined (time_len.Learnt tt)
  pub count_len : Determined (count_len.Learnt tt)
  -- how many bytes a put answers: std's `unwrap_or`, of any type
  pub put_length : (T : RattleType) (laws : Laws T) (d : Dict) (κs : Lfts 1) → Determined (put_length.Learnt T laws d κs)
  pub put_text : (κs : Lfts 2) → DeterminedWith (λ x. x.0.now) (put_text.Learnt κs)
  pub put_time : (κs : Lfts 1) → DeterminedWith (λ x. x.0.now) (put_time.Learnt κs)
  pub put_count : (κs : Lfts 1) → DeterminedWith (λ x. x.0.now) (put_count.Learnt κs)
  pub spaced_count : (κs : Lfts 1) → DeterminedWith (λ x. x.0.now) (spaced_count.Learnt κs)
  pub line_of : (κs : Lfts 1) → Determined (line_of.Learnt κs)
  pub read : (κs : Lfts 1) → Determined (read.Learnt κs)
  pub write : (κs : Lfts 1) → DeterminedWith (λ x. x.1.0.now) (write.Learnt κs)
  pub put_refusal : (κs : Lfts 1) → DeterminedWith (λ x. x.0.now) (put_refusal.Learnt κs)
  pub check_of : (κs : Lfts 1) → Determined (check_of.Learnt κs)
  pub put_block : (κs : Lfts 1) → DeterminedWith (λ x. x.0.now) (put_block.Learnt κs)
  pub is_good : (κs : Lfts 1) → Determined (is_good.Learnt κs)
  pub head_of : (κs : Lfts 1) → Determined (head_of.Learnt κs)
  pub task_of : (κs : Lfts 1) → Determined (task_of.Learnt κs)
  pub card_read : (κs : Lfts 1) → Determined (card_read.Learnt κs)
  pub card_write : (κs : Lfts 1) → DeterminedWith (λ x. x.1.0.now) (card_write.Learnt κs)
  pub code : Determined (code.Learnt tt)
  pub blocks_of : Determined (blocks_of_reads.Learnt tt)
  pub salvage : (κs : Lfts 3) → DeterminedWith {H = List ℕ × List ℕ} (λ x. (x.1.0.now, x.1.1.0.now)) (salvage.Learnt κs)
  pub merge : Determined (merge.Learnt tt)
  pub bound : Determined (bound.Learnt tt)
  pub outcome_of : Determined (outcome_of.Learnt tt)
  pub shares_of : Determined (shares_of.Learnt tt)
  pub analyse_all : Determined (analyse_all.Learnt tt)
  pub analyse : (t : Table) (allowance : ℕ) (row : List Record) (r s : Checked) (x y : List Record)
      → FillsRow t allowance row r x → FillsRow t allowance row s y → (r ≡ s) × (x ≡ y)
  pub wait : Determined (wait.Learnt tt)
  pub wait_all : Determined (wait_all.Learnt tt)
  pub page_of : (κs : Lfts 1) → Determined (page_of.Learnt κs)
  pub put_page : (κs : Lfts 1) → DeterminedWith (λ x. x.0.now) (put_page.Learnt κs)

-- ---- a refusal leaves everything lent as it was

pub record Keeps : Type 0 where
  pub row : (t : Table) (allowance : ℕ) (row : List Record) (r : Refusal) → analysis_fault t allowance (length row) ≡ Err r → analysed t allowance row ≡ row
  pub output : (t : Table) (out : List ℕ) (r : Refusal) → write_fault t (length out) ≡ Err r → written t out ≡ out
  pub field : (text out : List ℕ) → put_answer text out ≡ None → put_into text out ≡ out
  pub place : (text : List ℕ) (at : ℕ) (out : List ℕ) → put_answer_at text at out ≡ None → put_at text at out ≡ out
  pub page : (p : Page) (cells : List Cells) (out : List ℕ) → page_answer p cells out ≡ None → page_into p cells out ≡ out
  -- "a refused reading gives no table": its answer is the refusal alone, and where a definition asks for its table, that is the empty one
  pub table : (s : List ℕ) (r : Refusal) → read_listing s ≡ Err r → table_from (read_listing s) ≡ empty_table
  -- and of an archive the same
  pub archiving : (t : Table) (out : List ℕ) (r : Refusal) → archiving_fault t (length out) ≡ Err r → archiving t out ≡ out
  pub card : (a : List ℕ) (r : Refusal) → read_archive a ≡ Err r → table_from (read_archive a) ≡ empty_table

-- request 5/12 of document 02 amends this for the tool that mends cards: "After 14 or the table's own the list alone is written". In words: after 15 and 11 the list and the output
-- are as they were; after 14 and the table's own the output is, and the list has an entry for each block, and past them what it had, as it has where nothing is refused
pub record KeepsOrLists : Type 0 where
  pub output : (s : List ℕ) (entries : ℕ) (out : List ℕ) (r : Refusal) → salvage_fault s entries (length out) ≡ Err r → salvaged s entries out ≡ out
  pub list_kept : (s list : List ℕ) (room place : ℕ)
      → Refuses (salvage_fault s (length list) room) 15 place ⊎ Refuses (salvage_fault s (length list) room) 11 place → listed s list room ≡ list
  pub list_written : (s list : List ℕ) (room : ℕ) → (Refuses (salvage_fault s (length list) room) 15 0 → ⊥) → (Refuses (salvage_fault s (length list) room) 11 0 → ⊥)
      → listed s list room ≡ codes_of s ++ drop (length (codes_of s)) list

pub record Demand1 : Type 2 where
  pub entries : Entries
  pub determines : Determines
  pub keeps : Keeps
  pub keeps_or_lists : KeepsOrLists
  -- a refusal is given, with its number and place, exactly when its rule is the first that fails
  pub first_decides : FirstDecides
