-- Laws that several proofs cite.
pub mod Places
pub mod Moves
pub mod Spans
pub mod Numbers
pub mod Masks
pub mod Parts
mod Words
pub mod Replaced
