-- One doubleword of a write by document 01: what a reader must believe of this crate.
-- `WritingCode` alone is no rule: it says what the parts of the code leave.
pub mod Writing
pub mod WritingCode
