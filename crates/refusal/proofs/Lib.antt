-- Laws that several proofs cite.
pub mod Numbers
pub mod Order
pub mod Accepted
pub mod Carried
