-- Demand 3 by documents 01 and 02, for every list of calls: what a reader must believe of this crate.
pub mod Agreement
