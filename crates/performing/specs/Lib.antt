-- What an event line does by document 01, 'Board table and program': what a reader must believe of this crate.
pub mod Perform
