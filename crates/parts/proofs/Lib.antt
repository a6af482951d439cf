-- Laws that several proofs cite.
pub mod Masks
pub mod Made
pub mod Records
mod Sized
