-- What the programs `report` and `bench` print (document 01, "The report program"; request 6/12).
--   Report   the text
-- and, cited by contracts alone:
--   Pages    what the text is made from: the answer to a listing, a record for each task, and the cells of its verdict
pub mod Report
pub mod Pages
