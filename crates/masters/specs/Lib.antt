-- Other masters by document 01: what a reader must believe of this crate.
pub mod Masters
