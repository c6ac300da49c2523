-- The page row by row.
-- Assumes nothing.
use mathlib.Core.Path.{◌≡◌, sym}
use mathlib.Core.List.{List, ◌++◌, append_assoc, append-nil}
use Prim.Native.Nat.{ℕ, ◌+◌, ◌≤◌, ◌<◌}
use native.Mathlib.Omega.{arith}
use lib.ListN.{length}
use Rattle.basics.specs.Over.{join_to}
use Rattle.basics.proofs.JoinLaws.{join_none, join_more, join_eq}
use Rattle.page.specs.declared.Columns.{Columns}
use Rattle.page.specs.declared.Columns.TheVariants.{Four, Five}
use Rattle.page.specs.Report.{header, max_header, page_text}

-- no row, and one more
pub page_none : (columns : Columns) (row : ℕ → List ℕ) → page_text columns 0 row ≡ header columns
unfolding page_text
page_none columns row = rw (join_none, append-nil)

pub page_more : (columns : Columns) (n : ℕ) (row : ℕ → List ℕ) → page_text columns (n + 1) row ≡ page_text columns n row ++ row n
unfolding page_text
page_more columns n row = rw join_more (sym (append_assoc (header columns) (join_to n row) (row n)))

pub page_eq : (columns : Columns) (n : ℕ) (row other : ℕ → List ℕ) → ((i : ℕ) → i < n → row i ≡ other i) → page_text columns n row ≡ page_text columns n other
unfolding page_text
page_eq columns n row other e = rw (join_eq n row other e)

pub header_most : (columns : Columns) → length (header columns) ≤ max_header
header_most Four = omega arith
header_most Five = omega arith
