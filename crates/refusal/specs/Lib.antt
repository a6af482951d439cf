-- What a call is lent and leaves, and the numbers by which it is turned away: what a reader must believe of this crate.
pub mod Call
pub mod Refusal
