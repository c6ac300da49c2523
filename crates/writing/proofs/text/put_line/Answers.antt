use native.Mathlib.Omega.{arith}
use lib.ListN.{length-append}
use Rattle.basics.specs.Text.{ending}
use Rattle.put.proofs.OutputLaws.{written_all, filled_text}
use Rattle.writing.specs.declared.text.Field.TheVariants.{Count}
use Rattle.writing.proofs.LineLaws.{fields_from, lined_first, lined_in, lined_room, lined_more, lined_done}
use Rattle.writing.proofs.text.put_line.Goals as goal

pub loop-field-init : goal.loop-field-init
loop-field-init c = lined_first (fields_from 0 c.args.fields.now) (filled_text c.args.word.now c.put_text.auto.out (written_all c.args.word.now _ (omega (arith, length-append c.args.word.now (ending (fields_from 0 c.args.fields.now)))) c.unwrap_or-at.ensures c.put_text.ensures.0 c.put_text.ensures.1))

pub bounds-out-at : goal.bounds-out-at
bounds-out-at c = let l = c.loop-field in lined_in l.field-index c.args.fields.now l.invariant c.requires (Count 0) c.loop-field-test.true

pub slice_bounds-put-count : goal.slice_bounds-put-count
slice_bounds-put-count c = let l = c.loop-field in lined_room l.field-index c.args.fields.now l.invariant c.requires (Count 0) c.loop-field-test.true

pub slice_bounds-put-start : goal.slice_bounds-put-start
slice_bounds-put-start c = let l = c.loop-field in lined_room l.field-index c.args.fields.now l.invariant c.requires (Count 0) c.loop-field-test.true

pub loop-field-preserved : goal.loop-field-preserved
loop-field-preserved c =
    let l = c.loop-field in
    lined_more l.field-index c.args.fields.now l.invariant c.requires _ c.loop-field-test.true c.put-at.auto.out c.put-at.ensures

pub returns : goal.returns
returns c = let l = c.loop-field in lined_done l.field-index c.args.fields.now l.invariant c.requires c.loop-field-test.false
