-- The directory by document 01, in its order, with a test write's step by document 02: what a reader must believe of this crate.
pub mod Outcome
pub mod Steps
pub mod WellFormed
pub mod Alike
