-- Laws that several proofs cite.
pub mod Due
pub mod Taken
pub mod Writes
