-- Laws that several proofs cite; the crates above use them for the bounds of a way and of an LRU number, and for what a victim depends on.
pub mod FourWays
pub mod LruBits
