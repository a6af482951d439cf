-- One doubleword of a read by document 01: what a reader must believe of this crate.
-- `ReadingCode` alone is no rule: it says what the parts of the code leave.
pub mod Reading
pub mod ReadingCode
