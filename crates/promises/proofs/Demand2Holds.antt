-- Demand 2 holds.
-- Assumes nothing.
use Prim.Native.Nat.{ℕ, ◌≤◌, ◌<◌}
use mathlib.Core.Path.{◌≡◌, sym, ap, ◌∙◌}
use mathlib.Core.List.{List}
use lib.ListN.{length}
use borrow.Author.Tests.{le-leb}
use native.Mathlib.Nat.{le_trans}
use Rattle.basics.specs.Exactly.{◌exactly_if◌}
use Rattle.table.specs.declared.Table.{Table}
use Rattle.std.specs.Prelude.{Ok}
use Rattle.table.specs.Rules.{table_fault}
use Rattle.theory.specs.declared.Verdict.{Verdict}
use Rattle.theory.specs.declared.Verdict.TheVariants.{Open}
use Rattle.theory.specs.declared.Counted.{Counted}
use Rattle.theory.specs.Work.{workload}
use Rattle.theory.specs.View.{level}
use Rattle.theory.specs.Bound.{Least}
use Rattle.theory.specs.Merge.{merged}
use Rattle.theory.proofs.MergeLaws.{merged_bounds}
use Rattle.theory.proofs.WorkLaws.{workload_rises}
use Rattle.theory.proofs.AllowanceLaws.{open_above, open_count}
use Rattle.theory.proofs.EndLaws.{Right, meets_if, misses_if}
use Rattle.theory.proofs.DemandLaws.{demand_start}
use Rattle.theory.specs.Tables.{merged_view, counted_by, counted_in}
use Rattle.analysis.specs.declared.Record.{Record}
use Rattle.analysis.specs.Answers.{bound_of, analysis_fault, record_by}
use Rattle.analysis.proofs.ByRounds.{rounds_end, rounds_right, bound_known}
use Rattle.analysis.proofs.RowLaws.{fits, allowed, count_fine, row_record, row_past, row_long}
use Rattle.meaning.proofs.Meaning.{correct, complete, passes_check}
use Rattle.meaning.proofs.OneReading.{unambiguous}
use Rattle.table.proofs.Sameness.{cleared_same}
use Rattle.meaning.proofs.Back.{text_fits, reads_back, rewrites, same_text}
use Rattle.writing.specs.Write.{text_of, write_fault, write_answer, written}
use Rattle.promises.specs.Words.{Writes}
use Rattle.promises.specs.Demand2.{demand_in, deadline_in, CountIn, RightVerdict, RightRow, Demand2}

module _ (t : Table) (i allowance : ℕ) (fine : table_fault t ≡ Ok tt) (h : i < t.n) where
  v : Verdict
  v = (counted_in t allowance (level i)).verdict

  right : Right (demand_in t i) (deadline_in t i) v
  unfolding v counted_by
  right = rounds_right workload workload_rises (merged t) i (merged_bounds t fine) h allowance

  as_right : {w : Verdict} → v ≡ w → Right (demand_in t i) (deadline_in t i) w
  as_right e = rw e at right

  opens : (v ≡ Open) exactly_if ((n : ℕ) × CountIn t i n × (allowance < n))
  unfolding v counted_by
  opens =
      let c = rounds_end workload workload_rises (merged t) i (merged_bounds t fine) h in
      (λ e. (c.0, c.1, open_count _ _ allowance _ c.0 c.1 e), λ x. open_above _ _ allowance _ x.0 x.1 x.2)

  right_verdict : RightVerdict t i allowance v
  right_verdict =
      record {
        meets = λ q u. (λ e. as_right e, meets_if _ _ v right q u);
        misses = λ q. (λ e. as_right e, misses_if _ _ v right q);
        is_open = opens;
        from_run = λ u e. let l : Least (demand_in t i) (deadline_in t i) u = as_right e in (le_trans (demand_start workload (merged_view t) (level i) u) l.meets, l.high);
      }

verdicts : (t : Table) (i allowance : ℕ) → table_fault t ≡ Ok tt → i < t.n → 1 ≤ allowance
    → (r : Counted) × (bound_of t (level i) allowance ≡ Ok r) × RightVerdict t i allowance r.verdict
unfolding v
verdicts t i allowance fine h a = (counted_in t allowance (level i), bound_known t i allowance fine h a, right_verdict t i allowance fine h)

-- the row, where nothing is said against it and the table
right_row : (t : Table) (allowance : ℕ) (row : List Record) → analysis_fault t allowance (length row) ≡ Ok tt → RightRow t allowance row
unfolding record_by
right_row t allowance row e =
    let f = fits t allowance (length row) e in
    let w = count_fine t allowance (length row) e in
    record {
      task = λ i h. ap (λ (r : Record). r.task) (row_record t allowance row i _ (rw w h));
      verdict = λ i h. bound_known t i allowance f.0 h (allowed t allowance (length row) e)
          ∙ ap (λ (r : Record). Ok (record { verdict = r.verdict; rounds = r.rounds })) (sym (row_record t allowance row i _ (rw w h)));
      past = rw w at (row_past t allowance row);
      long = row_long t allowance row;
    }

-- the output of a listing, where there is room
text_written : (t : Table) (out : List ℕ) → table_fault t ≡ Ok tt → length (text_of t) ≤ length out → Writes (text_of t) out (write_answer t (length out)) (written t out)
unfolding write_fault write_answer written
text_written t out e h = let r = le-leb (length (text_of t)) (length out) h in record { wrote = rw (e, r); output = rw (e, r) }

pub demand2 : Demand2
demand2 =
    record {
      verdicts = verdicts;
      rows = right_row;
      correct = correct;
      complete = complete;
      unambiguous = unambiguous;
      passes_check = passes_check;
      written_text = text_written;
      text_fits = text_fits;
      reads_back = reads_back;
      cleared_same = cleared_same;
      rewrites = rewrites;
      same_text = same_text;
    }
