-- Accesses by document 01, in its order: what a reader must believe of this crate.
pub mod Access
pub mod Bench
