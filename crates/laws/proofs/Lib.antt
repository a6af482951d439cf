-- Plain laws that the proofs of other crates cite.
pub mod Tests
pub mod Below
pub mod Lists
