-- Laws that several proofs cite.
pub mod Alone
pub mod Landing
pub mod AccessLoop
pub mod ReadLoop
pub mod WriteLoop
pub mod Calls
pub mod Bench
