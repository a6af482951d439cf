-- Laws of the ranges that are set.
pub mod SetRanges
