-- Read-only ranges by document 02, C-17: what a reader must believe of this crate.
pub mod Ranges
