-- `writing::text::line_len` meets its contract. The loop's invariant: what is left to add is what the fields to come, each after a space, take. Assumes nothing.
use Prim.Native.Nat.{◌+◌, ◌*◌, ◌≤◌}
use mathlib.Core.Path.{◌≡◌}
use lib.ListN.{length}
use Rattle.basics.specs.Text.{ending}
use Rattle.writing.specs.Line.{line_text}
use Rattle.writing.proofs.LineLaws.{fields_from}
use Rattle.writing.proofs.text.line_len.Given as goal

abbrev pub invariant-loop-field : goal.invariant-loop-field
invariant-loop-field l = (l.sum ≤ 6 + 12 * l.field-index) × (l.sum + length (ending (fields_from l.field-index l.fields)) ≡ length (line_text l.word l.fields) + 1)
