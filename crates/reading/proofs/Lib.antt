-- Laws that several proofs cite.
pub mod Alone
pub mod ReadDoublewords
pub mod Taken
