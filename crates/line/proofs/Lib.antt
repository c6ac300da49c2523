-- Laws of a line.
--   FormLaws     counting the fields of a line, and its first field
--   FieldLaws    where each field of a line begins, and what number is read there
--   WordLaws     a line of a form is the line of its word and its fields
--   LineForm     the line of a word and fields has the form
--   StatedLaws   the numbers that fields state, and those that are read
--   LineRules    each kind of line, by its rules
--   Says         what a line is that says something
--   FieldCalls   what the fields of a `cpus` and of a `task` line call for
--   GroupCalls   what those of a `group` line call for
--   AlphaCalls   what that of an `alpha` line calls for
--   UseCalls     what those of a `use` line call for
--   Called       a line is refused with the number that it calls for
--   Determined   two answers are equal
pub mod FormLaws
pub mod FieldLaws
pub mod WordLaws
pub mod LineForm
pub mod StatedLaws
pub mod LineRules
pub mod Says
pub mod FieldCalls
pub mod GroupCalls
pub mod AlphaCalls
pub mod UseCalls
pub mod Called
pub mod Determined
