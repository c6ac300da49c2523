-- Assumes nothing.
use mathlib.Core.Path.{refl}
use Rattle.table.specs.Empty.{empty_task, empty_table}
use Rattle.table.specs.Rules.{times_in_range, times_in_order, times_fault, alpha_fault, used_in_range, totals_fit}
use Rattle.field.specs.Number.{rounded, fraction, time_field, count_field}
use Rattle.line.specs.Fields.{field_count}
use Rattle.line.specs.Line.{cpus_line, group_line, task_line, alpha_line, use_line, line_says}
use Rattle.listing.specs.Read.{past_after, new_task, table_after, read_end, read_lines, read_listing}
use Rattle.listing.specs.ReadCases.{cases, table_A, table_R, table_p, table_G, CasesHold}

pub cases_hold : CasesHold
unfolding cases table_A table_R table_p table_G empty_task empty_table times_in_range times_in_order times_fault alpha_fault used_in_range totals_fit rounded fraction time_field count_field field_count cpus_line group_line task_line alpha_line use_line line_says past_after new_task table_after read_end read_lines read_listing
cases_hold = (refl, refl, refl, refl, refl, refl, refl)
