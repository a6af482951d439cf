-- Numbers and rows as they are printed, by document 01, 'Board table and program': what a reader must believe of this crate.
pub mod Decimal
pub mod Row
