-- Laws that several proofs cite.
pub mod Parity
pub mod Records
pub mod Loops
pub mod Brought
pub mod Stored
