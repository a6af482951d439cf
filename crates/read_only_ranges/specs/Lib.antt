-- The call that sets the read-only ranges, by document 02, C-17: what a reader must believe of this crate.
pub mod SetRanges
