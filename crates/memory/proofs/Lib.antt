-- Laws that several proofs cite.
pub mod Bits
pub mod Stores
pub mod Written
