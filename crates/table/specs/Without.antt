-- A table without its alphas: what the archive keeps of it ("The archive drops it", document 02, 8/12), and what the verdicts read of it.
use Rattle.std.specs.Prelude.{map}
use Rattle.table.specs.declared.Table.{Table}
use Rattle.table.specs.At.{with_alpha, Same}

unfoldable pub without_alpha : Table → Table
without_alpha t = record { cpus = t.cpus; n = t.n; groups = t.groups; tasks = map (with_alpha 0) t.tasks }

-- two tables that differ in alpha alone, if at all
abbrev pub SameButAlpha : Table → Table → Type 0
SameButAlpha a b = Same (without_alpha a) (without_alpha b)
