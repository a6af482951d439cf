-- The bus by document 01, in its order, with C-13 of document 02: what a reader must believe of this crate.
-- `Runs` alone is no rule: it takes the cycles of wanted bytes apart, run by run.
pub mod Groups
pub mod Bus
pub mod Record
pub mod Runs
