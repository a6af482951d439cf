-- The ways of a set by document 01, in its order: what a reader must believe of this crate.
pub mod Address
pub mod Lru
pub mod LruBits
pub mod Ways
pub mod State
