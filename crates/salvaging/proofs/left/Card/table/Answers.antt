use Rattle.std.proofs.Common.{◌≡◌, min, refl, arith}
use Rattle.table.specs.Limits.{max_tasks}
use Rattle.salvaging.proofs.MendLaws.{order_at, groups_start, tasks_start, tasks_more, table_done}
use Rattle.salvaging.proofs.left.Card.table.Goals as goal

pub loop-p-init : goal.loop-p-init
loop-p-init c =
    let s = c.args.self.now in
    let o = order_at s.input.now s.codes.now c.args.n s.whole.1 c.requires.2 0 (omega arith) in
    (rw (c.head_of.ensures, c.numbered.ensures, o), refl, groups_start c.empty.ensures, tasks_start _ _ c.empty.ensures)

pub loop-p-preserved : goal.loop-p-preserved
loop-p-preserved c =
    let s = c.args.self.now in
    let i = c.loop-p.invariant in
    (i.0, i.1, i.2, rw (c.task_of.ensures, c.numbered-in-loop-p.ensures) (tasks_more s.input.now s.codes.now c.loop-p.p (omega arith) i.3))

pub returns : goal.returns
returns c =
    let s = c.args.self.now in
    let i = c.loop-p.invariant in
    let e : c.loop-p.p ≡ min c.args.n max_tasks = omega arith in
    table_done s.input.now s.codes.now c.args.n s.whole.1 c.requires.2 c.loop-p.p e i.0 i.1 i.2 i.3
