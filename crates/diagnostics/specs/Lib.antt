-- Diagnostic disks by document 02, C-11: what a reader must believe of this crate.
pub mod Diagnostics
