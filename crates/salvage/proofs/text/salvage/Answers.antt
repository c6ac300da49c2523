-- `salvage::text::salvage` meets its contract: the list is the one that the library says, and there is room for its lines and the refusal. Assumes nothing.
use mathlib.Core.Path.{◌≡◌, sym, ap, ◌∙◌}
use native.Mathlib.Omega.{arith}
use lib.ListN.{length, take}
use lib.Seq.{length-take-le}
use Rattle.basics.specs.Over.{join_to}
use Rattle.basics.proofs.FillLaws.{rest_length, filled_part}
use Rattle.put.proofs.OutputLaws.{filled_text, filled_done}
use Rattle.salvaging.specs.Salvage.{max_blocks, salvage_answer}
use Rattle.salvage.specs.Telling.{max_card, code_line, refused_by, wrote_length, told_text}
use Rattle.salvage.proofs.TellingLaws.{shown_few, shown_most, shown_are}
use Rattle.salvage.proofs.text.salvage.Goals as goal

pub slice_bounds-list-end : goal.slice_bounds-list-end
slice_bounds-list-end c = omega (arith, shown_few c.args.card.now c.blocks_of-k.ensures)

pub slice_bounds-put_lines-end : goal.slice_bounds-put_lines-end
slice_bounds-put_lines-end c = sym (length-take-le _ _ (omega (arith, shown_few c.args.card.now c.blocks_of-k.ensures)))

pub put_refused-requires : goal.put_refused-requires
put_refused-requires c =
    omega (arith, rest_length c.put_lines-at.new.out c.put_lines-at.result, shown_most c.args.card.now c.salvage-answer.new.list c.blocks_of-k.ensures)

pub returns : goal.returns
unfolding told_text
returns c =
    let s = c.args.card.now in
    let l = take c.blocks_of-k.result c.salvage-answer.new.list in
    let a : c.salvage-answer.result ≡ salvage_answer s max_blocks max_card = c.salvage-answer.ensures.0 ∙ ap (salvage_answer s max_blocks) c.requires.0 in
    let m = shown_most s c.salvage-answer.new.list c.blocks_of-k.ensures in
    let f = filled_text (join_to (length l) (code_line l)) c.put_lines-at.auto.out c.put_lines-at.ensures in
    let t =
    filled_done (told_text s) (rw (shown_are s _ (length c.args.out.now) (omega arith) (omega arith) c.blocks_of-k.ensures c.salvage-answer.ensures.1, a))
    (filled_part f (refused_by c.salvage-answer.result) (omega arith) c.put_refused.ensures.0 c.put_refused.auto.out c.put_refused.ensures.1) in
    (c.unwrap_or.ensures ∙ ap wrote_length a, c.salvage-answer.ensures.2, t.0, t.1)
