-- Numbers and fields of a line as text, by document 01, 'Board table and program': what a reader must believe of this crate.
pub mod Number
pub mod Fields
