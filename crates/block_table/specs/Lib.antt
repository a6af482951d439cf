-- Loading a block table by document 02, C-16: what a reader must believe of this crate.
pub mod Load
pub mod Table
