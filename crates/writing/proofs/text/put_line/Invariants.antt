-- `writing::text::put_line` meets its contract. The loop's invariant: the output is filled with the line but for the fields to come and the LF. Assumes nothing.
use Rattle.writing.specs.Line.{line_text}
use Rattle.writing.proofs.LineLaws.{fields_from, Lined}
use Rattle.writing.proofs.text.put_line.Given as goal

abbrev pub invariant-loop-field : goal.invariant-loop-field
invariant-loop-field l = Lined l.fn.out l.out l.at (fields_from l.field-index l.fields) (line_text l.word l.fields)
