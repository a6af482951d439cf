-- Bytes in lists and as numbers: what a reader must believe of this crate.
pub mod Bytes
