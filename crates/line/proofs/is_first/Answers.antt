-- `line::is_first` meets its contract. Assumes nothing.
use Rattle.line.proofs.FormLaws.{first_is}
use Rattle.line.proofs.is_first.Goals as goal

pub returns-then-starts_with : goal.returns-then-starts_with
returns-then-starts_with c =
    let e = first_is c.args.word.now c.args.s.now c.requires in
    rw (e, ← c.if-starts_with.ensures.value) c.ends_at.ensures

pub returns-else-starts_with : goal.returns-else-starts_with
returns-else-starts_with c =
    let e = first_is c.args.word.now c.args.s.now c.requires in
    rw (e, ← c.if-starts_with.ensures.value) c.if-starts_with.false
