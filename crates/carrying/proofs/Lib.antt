-- Laws that several proofs cite.
pub mod Settled
pub mod Cycles
pub mod Moved
pub mod Runs
pub mod Misses
pub mod Doublewords
