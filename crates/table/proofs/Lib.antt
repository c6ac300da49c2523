-- Laws of the table's rules and of its check.
--   Chain          one rule after another
--   FirstLaws      the first fault of many
--   Deciding       of two checks, and of n, the first that refuses decides; what a refusal comes from; no two have one number
--   RuleFacts      each test of the rules is a fact
--   GroupLaws      what the tests of the groups say, as facts
--   AlphaLaws      what the tests of 17 and 18 say, as facts
--   RuleLaws       what the rules for a task's times and for a pair say, as bounds
--   Acceptance     a table is accepted exactly if nothing is said against it
--   Called         a table is refused exactly as it calls for
--   Sameness       tables that are the same are checked alike
--   WithoutLaws    a table without its alphas
--   CasesHold      the cases, computed
--   Determined     two answers are equal
pub mod Chain
pub mod FirstLaws
pub mod Deciding
pub mod RuleFacts
pub mod GroupLaws
pub mod AlphaLaws
pub mod RuleLaws
pub mod Acceptance
pub mod Called
pub mod Sameness
pub mod WithoutLaws
pub mod CasesHold
pub mod Determined
