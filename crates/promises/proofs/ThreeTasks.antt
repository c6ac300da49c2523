-- What a program prints on a listing of three tasks, from what they come to.
-- Assumes nothing.
use Prim.Native.Nat.{ℕ, suc, ◌≤◌}
use Prim.Native.String.{String}
use mathlib.Core.Path.{◌≡◌, ◌∙◌}
use mathlib.Core.List.{List, ◌++◌}
use native.Mathlib.Omega.{arith}
use lib.Dec.{T, leb, leb→le}
use Rattle.basics.specs.Over.{join_to}
use Rattle.basics.specs.Text.{bytes}
use Rattle.table.specs.declared.Table.{Table}
use Rattle.std.specs.Prelude.{Ok}
use Rattle.listing.specs.Read.{read_listing}
use Rattle.theory.specs.declared.Verdict.TheVariants.{Meets, Misses}
use Rattle.theory.specs.declared.Counted.{Counted}
use Rattle.theory.specs.View.{level}
use Rattle.theory.specs.Tables.{counted_in}
use Rattle.analysis.proofs.ByRounds.{under_more}
use Rattle.page.specs.declared.Columns.{Columns}
use Rattle.page.specs.Report.{report_allowance, header, row_text, more_of, page_text, report_text}
use Rattle.promises.specs.Words.{read_table}
use Rattle.promises.proofs.ReportLaws.{report_accepted}
use Rattle.table.specs.Answers.{answer_of}
use Rattle.table.proofs.Chain.{given_is}

abbrev row : Columns → Table → ℕ → Counted → List ℕ
row columns t i r = row_text (suc i) r.verdict r.rounds (more_of columns t i)

pub three : (columns : Columns) (allowance : ℕ) (s : String) (a b c : Counted) → 1 ≤ allowance → answer_of (read_listing (bytes s)) ≡ Ok tt → (read_table s).n ≡ 3
    → counted_in (read_table s) allowance (level 0) ≡ a → counted_in (read_table s) allowance (level 1) ≡ b → counted_in (read_table s) allowance (level 2) ≡ c
    → let w = row columns (read_table s) in report_text columns allowance (bytes s) ≡ header columns ++ ((w 0 a ++ w 1 b) ++ w 2 c)
unfolding page_text join_to
three columns allowance s a b c h e n p q r =
    report_accepted columns allowance (bytes s) (read_table s) h (given_is (read_listing (bytes s)) e)
    ∙ rw (n, p, q, r)

-- a bound, or a miss, after k rounds
abbrev pub met : ℕ → ℕ → Counted
met u k = record { verdict = Meets u; rounds = k }

abbrev pub missed : ℕ → Counted
missed k = record { verdict = Misses; rounds = k }

-- what comes after k rounds comes under the allowance of `report`, if that is no less
module _ (s : String) (i k : ℕ) (h : T (leb k 10_000_000)) where
  pub meets_in : {u : ℕ} → counted_in (read_table s) k (level i) ≡ met u k → counted_in (read_table s) report_allowance (level i) ≡ met u k
  unfolding report_allowance
  meets_in e = under_more (read_table s) i k report_allowance (leb→le k _ h) e (λ o. let z : ◌≡◌ {A = ℕ} 0 1 = cc in absurd (omega arith))

  pub misses_in : counted_in (read_table s) k (level i) ≡ missed k → counted_in (read_table s) report_allowance (level i) ≡ missed k
  unfolding report_allowance
  misses_in e = under_more (read_table s) i k report_allowance (leb→le k _ h) e (λ o. let z : ◌≡◌ {A = ℕ} 0 1 = cc in absurd (omega arith))

pub some_allowed : 1 ≤ report_allowance
unfolding report_allowance
some_allowed = leb→le 1 10_000_000 tt
