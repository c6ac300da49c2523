use Rattle.std.proofs.Common.{◌∙◌, ltb, take, rules}
use Rattle.std.proofs.lemmas.Iterator.{YieldsList-from_slice}
use Rattle.std.proofs.lemmas.Iterator.Consumers.{YieldsList-from_filter, count_from_yields_List}
use borrow.Author.Tests.{tests}
use Rattle.basics.proofs.EachLaws.{count_is}
use Rattle.table.specs.declared.Task.{Task}
use Rattle.table.specs.At.{no_task}
use Rattle.checking.proofs.alphas_in.Goals as goal

pub returns : goal.returns
returns c =
    let given = λ (x : Task). ltb 0 x.alpha in
    let ts = c.args.t.tasks in
    count_from_yields_List c.filter.result _ c.count.ensures.ran (YieldsList-from_filter _ given (YieldsList-from_slice (take c.args.t.n ts) cc) c.filter.ensures.closure (λ x r q k. search (rules, tests)))
    ∙ count_is c.args.t.n no_task given ts (search rules)
