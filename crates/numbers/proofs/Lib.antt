-- Laws of the numbers that several proofs cite.
pub mod Refused
