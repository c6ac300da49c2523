use Rattle.std.proofs.Common.{◌≡◌, ◌∙◌, sym, List, replicate, ap, ext_get_or, rules, arith}
use lib.ListN.{length-replicate, get_or-replicate}
use Rattle.std.specs.Array.{AllOfLen}
use Rattle.table.specs.declared.Pair.{Pair}
use Rattle.table.specs.declared.Task.{Task}
use Rattle.table.specs.declared.Table.{Table}
use Rattle.table.specs.contracts.PairDefault.TheImpl.{is_default-value}
use Rattle.table.specs.Empty.{unused_pair, empty_task, empty_table}
use Rattle.table.proofs.Table.empty.Goals as goal

unused : (p : Pair) → is_default-value.it p → p ≡ unused_pair
unused p d = search rules

-- sixteen defaults are the row of an empty task
all_unused : (xs : List Pair) → AllOfLen is_default-value.it xs 16 → xs ≡ replicate 16 unused_pair
all_unused xs e =
    ext_get_or unused_pair xs _ (e.long ∙ sym (length-replicate 16 unused_pair))
    (λ i l. unused _ (e.at i unused_pair (omega (arith, e.long))) ∙ sym (get_or-replicate 16 i unused_pair unused_pair (omega (arith, e.long))))

task_is : (x : Task) → x.period ≡ 0 → x.run ≡ 0 → x.deadline ≡ 0 → x.alpha ≡ 0 → x.pairs ≡ replicate 16 unused_pair → x ≡ empty_task
unfolding empty_task
task_is x a b c d e = search rules

abbrev rows : Task → Table
rows x = record { cpus = 0; n = 0; groups = replicate 16 0; tasks = replicate 32 x }

pub returns : goal.returns
unfolding empty_table
returns c =
    let e = c.default-tasks.ensures in
    ap rows (task_is c.default-tasks.result e.0 e.1.0 e.1.1.0 e.1.1.1.0 (all_unused _ e.1.1.1.1))
