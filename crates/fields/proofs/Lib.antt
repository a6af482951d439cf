-- Laws that the proofs of several functions cite.
pub mod Digits
pub mod Parts
pub mod Pairs
pub mod LeadingNumber
