-- `salvage::text::put_line` meets its contract: the position is put, and the word where it ended; both together are at most 19 bytes. Assumes nothing.
use Prim.Native.Nat.{◌≤◌}
use native.Mathlib.Omega.{arith}
use lib.ListN.{length, length-append}
use Rattle.put.specs.Text.{count_text}
use Rattle.put.proofs.TextLaws.{count_small}
use Rattle.put.proofs.OutputLaws.{written_all, filled_text, filled_done}
use Rattle.put.proofs.PlaceLaws.{filled_put}
use Rattle.salvage.specs.Telling.{code_word, word_line}
use Rattle.salvage.proofs.TellingLaws.{word_most}
use Rattle.salvage.proofs.text.put_line.Goals as goal

pub returns : goal.returns
unfolding word_line
returns c =
    let n = count_small c.from.result (omega arith) in
    let w : length c.word.result.now ≤ 9 = rw c.word.ensures (simp length-append (omega (arith, word_most c.args.code))) in
    let k = written_all (count_text c.from.result) c.args.out.now (omega arith) c.unwrap_or-at.ensures c.put_count.ensures.0 c.put_count.ensures.1 in
    filled_done (word_line c.args.position (code_word c.args.code)) (rw (c.from.ensures, c.word.ensures))
    (filled_put (filled_text (count_text c.from.result) c.put_count.auto.out k) c.word.result.now (omega arith) c.put_text.ensures.0 c.unwrap_or.ensures c.put_text.auto.out c.put_text.ensures.1)
