-- The calls of a list by documents 01 and 02, one step of the unit, the plain memory, and what is compared: what a reader must believe of this crate.
pub mod Calls
pub mod Plain
pub mod Matches
