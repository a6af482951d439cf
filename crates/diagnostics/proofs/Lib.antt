-- Laws of the test calls. A crate above works from `Laws`; `Lines` is for the proofs of this crate's functions.
pub mod Laws
mod Lines
