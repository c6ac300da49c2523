-- `salvaging::fates::same` meets its contract. Assumes nothing.
use Rattle.std.proofs.Common.{◌∙◌}
use Rattle.std.proofs.lemmas.Bool.Decides.{same_from_decides}
use Rattle.std.proofs.lemmas.Slice.Eq.{bytes_eq-Decides}
use Rattle.salvaging.proofs.FateLaws.{same_is, is_same}
use Rattle.salvaging.proofs.fates.same.Goals as goal

pub returns : goal.returns
returns c =
    let a = c.args.a.now in
    let b = c.args.b.now in
    c.eq.ensures ∙ same_from_decides _ _ (bytes_eq-Decides a b) (same_is a b, is_same a b)
