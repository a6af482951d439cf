-- The external writes that a read carries, by document 02: what a reader must believe of this crate.
-- `CarriedCode` alone is no rule: it says what the code's own struct stands for.
pub mod Carried
pub mod CarriedCode
