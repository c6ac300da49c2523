-- `rounds::is_sound` meets its contract. Assumes nothing.
use Rattle.std.proofs.Common.{◌≡◌, false, take, sym, ◌∙◌, arith, rules, tests}
use Rattle.std.proofs.lemmas.Iterator.{YieldsList-from_slice}
use Rattle.std.proofs.lemmas.Iterator.Search.{all_from_yields_List}
use Rattle.rounds.specs.Outcome.{share_fits}
use Rattle.rounds.proofs.SoundLaws.{head_tasks, sound_head, sound_all, all_shares}
use Rattle.rounds.proofs.is_sound.Goals as goal

pub shared_ref_as_front-iter : goal.shared_ref_as_front-iter
shared_ref_as_front-iter c = head_tasks c.args.s.now c.args.deadline cc

pub returns-then-head_fits : goal.returns-then-head_fits
returns-then-head_fits c =
    let s = c.args.s.now in
    let all = all_from_yields_List share_fits _ _ c.all.result c.all.ensures.ran (YieldsList-from_slice (take s.n s.of) cc) (λ x b q k. search (rules, tests)) in
    let few = head_tasks s c.args.deadline cc in
    sym (sound_all s c.args.deadline (cc) (sym (all ∙ all_shares s.of s.n (omega arith))))

pub returns-else-head_fits : goal.returns-else-head_fits
returns-else-head_fits c =
    let fails : c.head_fits.result ≡ false = cc in
    fails ∙ sym (sound_head c.args.s.now c.args.deadline cc)
