-- The two flush rules by documents 01 and 02, for every list of calls: what a reader must believe of this crate.
pub mod FlushRules
