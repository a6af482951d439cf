-- No rule: the records that the code makes from numbers, and what it leaves.
pub mod Parts
pub mod Made
