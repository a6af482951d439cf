-- The run of event lines by document 01, 'Board table and program': what a reader must believe of this crate.
pub mod Output
