-- What a listing says from a place on: at its end, where its last line is open, and after a line; the bounds of what the lines so far leave; and the
-- step of the reader's loop.
-- Assumes nothing.
use Prim.Native.Nat.{ℕ, suc, ◌+◌, ◌≤◌, ◌<◌}
use mathlib.Core.Path.{◌≡◌, sym, ap, ◌∙◌}
use mathlib.Core.Bool.{true, true≢false}
use mathlib.Core.List.{List, [], ◌∷◌}
use native.Mathlib.Omega.{arith}
use lib.ListN.{length, take, drop, length-drop}
use lib.Dec.{eqb}
use borrow.Author.Tests.{le-leb, ne_eqb}
use Rattle.table.specs.declared.Table.{Table}
use Rattle.table.specs.declared.Refusal.{Refusal}
use Rattle.std.specs.Prelude.{Result, Ok, Err}
use Rattle.table.specs.Limits.{max_tasks, max_time, max_listing}
use Rattle.table.specs.Empty.{empty_table}
use Rattle.line.specs.declared.Past.{Past}
use Rattle.line.specs.declared.Said.{Said}
use Rattle.table.specs.Answers.{Reading}
use Rattle.listing.specs.Lines.{lines, ends_in_LF}
use Rattle.listing.specs.FirstLine.{line}
use Rattle.line.specs.Line.{line_says}
use Rattle.listing.specs.Room.{Room}
use Rattle.listing.specs.Read.{no_lines, past_after, table_after, on_said, read_end, read_lines, read_listing}
use Rattle.listing.proofs.LineLaws.{line_take, lines_more, lines_none, ends_in_LF_more, ends_in_LF_open}
use Rattle.line.proofs.LineRules.{Line, is_cpus, is_group, is_task, is_alpha, is_use}
use Rattle.line.proofs.Says.{line_is}

-- ---- what the lines so far leave

pub record PastOk (past : Past) : Type 0 where
  pub tasks_most : past.tasks ≤ max_tasks
  pub sum_run : past.sum ≤ past.run
  pub run_most : past.run ≤ max_time
  -- no more tasks have an alpha than there are, and a fresh one has none yet
  pub alphas_most : past.alphas ≤ past.tasks
  pub fresh_most : past.fresh ≡ true → past.alphas < past.tasks

past_ok : (past : Past) (n : ℕ) (l : List ℕ) (said : Said) → PastOk past → Line past n l (Ok said) → PastOk (past_after past said)
unfolding past_after
past_ok past n l _ ok (is_cpus f e r) = ok
past_ok past n l _ ok (is_group f h e r) =
    record { tasks_most = ok.tasks_most; sum_run = ok.sum_run; run_most = ok.run_most; alphas_most = ok.alphas_most; fresh_most = ok.fresh_most }
past_ok past n l _ ok (is_task f e r) =
    record { tasks_most = omega arith; sum_run = omega arith; run_most = omega arith; alphas_most = omega arith; fresh_most = λ h. omega arith }
past_ok past n l _ ok (is_alpha f e r) =
    let h = ok.fresh_most e in
    record { tasks_most = ok.tasks_most; sum_run = ok.sum_run; run_most = ok.run_most; alphas_most = omega arith; fresh_most = λ e. absurd (true≢false (sym e)) }
past_ok past n l _ ok (is_use f e r) =
    record { tasks_most = ok.tasks_most; sum_run = r.fits; run_most = ok.run_most; alphas_most = ok.alphas_most; fresh_most = λ e. absurd (true≢false (sym e)) }

-- the table has room for what a line says
room : (past : Past) (n : ℕ) (l : List ℕ) (said : Said) → PastOk past → Line past n l (Ok said) → Room past.tasks said
room past n l _ ok (is_cpus f e r) = tt
room past n l _ ok (is_group f h e r) = (r.least, r.most)
room past n l _ ok (is_task f e r) = r.room
room past n l _ ok (is_alpha f e r) = (omega (arith, ok.fresh_most e), ok.tasks_most)
room past n l _ ok (is_use f e r) = (e, ok.tasks_most, r.least, r.most)

-- ---- the reader's loop

-- what is read from a place on
abbrev read_from : Table → Past → ℕ → List ℕ → Reading
read_from t past n s = read_lines t past n (lines s) (ends_in_LF true s)

-- before line n, with the table and the past so far: the rest of s is read as the whole is
pub record Left (s : List ℕ) (t : Table) (past : Past) (n : ℕ) (rest : List ℕ) : Type 0 where
  pub few : n + length rest ≤ length s + 1
  pub ok : PastOk past
  pub reads : read_from t past n rest ≡ read_listing s

-- a listing that is not too long is read from its start
pub left_start : (s : List ℕ) (t : Table) → length s ≤ max_listing → t ≡ empty_table → Left s t no_lines 1 s
unfolding read_listing
left_start s t h e =
    record {
      few = omega arith;
      ok = record { tasks_most = omega arith; sum_run = omega arith; run_most = omega arith; alphas_most = omega arith; fresh_most = λ e. absurd (true≢false (sym e)) };
      reads = rw (e, le-leb (length s) max_listing h);
    }

-- no line is left
pub left_end : {s : List ℕ} {t : Table} {past : Past} {n : ℕ} {rest : List ℕ} → Left s t past n rest → length (line rest) ≡ length rest
    → read_end t past n (eqb (length rest) 0) ≡ read_listing s
unfolding read_lines
left_end {s} {t} {past} {n} {rest} x h = go rest h x.reads
  where
    go : (rest : List ℕ) → length (line rest) ≡ length rest → read_from t past n rest ≡ read_listing s → read_end t past n (eqb (length rest) 0) ≡ read_listing s
    go [] h r = r
    go (b ∷ rest) h r = rw (ne_eqb (suc (length rest)) 0 (λ q. omega arith)) (rw (lines_none (b ∷ rest) h, ends_in_LF_open true (b ∷ rest) h (omega arith)) at r)

-- line n is left, of k bytes, and says this
module _ {s : List ℕ} {t : Table} {past : Past} {n k : ℕ} {rest : List ℕ} (x : Left s t past n rest) (l : k ≡ length (line rest)) (h : k < length rest) {a : Result Said Refusal}
    (e : a ≡ line_says past n (take k rest)) where
  next_reads : on_said a (λ said. read_from (table_after t past.tasks said) (past_after past said) (n + 1) (drop (k + 1) rest)) ≡ read_listing s
  unfolding read_lines
  next_reads =
      let m : length (line rest) < length rest = omega arith in
      let j : suc (length (line rest)) ≡ k + 1 = omega arith in
      let d : drop (suc (length (line rest))) rest ≡ drop (k + 1) rest = ap (λ (i : ℕ). drop i rest) j in
      let q : line_says past n (line rest) ≡ a = rw (l, line_take rest) at (sym e) in
      rw (lines_more rest m, ends_in_LF_more true rest m, d, q) at x.reads

  pub next_not : {r : Refusal} → a ≡ Err r → ◌≡◌ {A = Reading} (Err r) (read_listing s)
  next_not q = rw q at next_reads

  module _ {said : Said} (q : a ≡ Ok said) where
    next_line : Line past n (take k rest) (Ok said)
    next_line = rw (sym e ∙ q) at (line_is past n (take k rest))

    next_past : PastOk (past_after past said)
    next_past = past_ok past n _ said x.ok next_line

    pub next_room : Room past.tasks said
    next_room = room past n _ said x.ok next_line

    -- the past that it leaves fits its numbers
    pub next_fits : ((past_after past said).tasks ≤ max_tasks) × ((past_after past said).sum ≤ max_time) × ((past_after past said).alphas ≤ max_tasks)
    next_fits = (next_past.tasks_most, omega (arith, next_past), omega (arith, next_past))

    -- the line is passed, with the table and the past that it leaves
    pub next_left : {u : Table} {p : Past} {tail : List ℕ} → u ≡ table_after t past.tasks said → p ≡ past_after past said → tail ≡ drop (k + 1) rest → Left s u p (n + 1) tail
    next_left f g j =
        record {
          few = rw j (omega (arith, length-drop (k + 1) rest));
          ok = rw g next_past;
          reads = rw (f, g, j) (rw q at next_reads);
        }
